-- A set of keys that may have grown over the limit: what it says of the list.
use mathlib.Core.Path.{◌≡◌, refl, ap, sym, ◌∙◌}
use mathlib.Core.Bool.{Bool, true, false, not}
use mathlib.Core.List.{List}
use Prim.Native.Nat.{ℕ, ◌≤◌, ◌<◌}
use native.Mathlib.Omega.{arith}
use lib.Dec.{ltb}
use lib.ListN.{length, length-append}
use Rattle.std.specs.Prelude.{Option, Some, None}
use Rattle.std.specs.Option.{is_some}
use Rattle.listlaws.proofs.Limits.{within-fits, within-exceeds, flag-set, flag-clear, flag_is}
use Rattle.listlaws.proofs.Growing.{Growing}
use Rattle.removals.specs.declared.Keys.{Keys}
use Rattle.limits.specs.Limits.{key_limit}
use Rattle.removals.specs.Model.{keys_as}
use Rattle.removals.specs.Counted.{united_as}

-- the answer of a union within the limit
abbrev good : List ℕ → Option Keys
good k = Some (keys_as k)

abbrev lacks : Option Keys → Bool
lacks u = not (is_some u)

pub keys-fit : (l : List ℕ) → length l ≤ key_limit → united_as l ≡ Some (keys_as l)
keys-fit l h = within-fits key_limit good None l h

pub keys-exceed : (l : List ℕ) → key_limit < length l → united_as l ≡ None
keys-exceed l h = within-exceeds key_limit good None l h

-- what the answer says of the list
pub some-within : {k : Keys} (l : List ℕ) → Some k ≡ united_as l → length l ≤ key_limit
some-within l e = flag-clear key_limit good None lacks (λ k. refl) refl l e refl

pub some-keys : {k : Keys} (l : List ℕ) → Some k ≡ united_as l → k ≡ keys_as l
some-keys {k} l e = ap given (e ∙ keys-fit l (some-within l e))
  where
    given : Option Keys → Keys
    given (Some h) = h
    given None = k

pub none-over : (l : List ℕ) → None ≡ united_as l → key_limit < length l
none-over l e = flag-set key_limit good None lacks (λ k. refl) refl l e refl

-- what is over the limit stays over it, whatever is to come
pub growing-none : {whole rest : List ℕ} → Growing united_as whole rest None → None ≡ united_as whole
growing-none {rest = rest} g = sym (keys-exceed _ (omega (arith, none-over g.done g.packed, ap length g.parts, length-append g.done rest)))

-- there is none where the list is over the limit
pub none-told : {u : Option Keys} {b : Bool} (l : List ℕ) → u ≡ united_as l → is_some u ≡ not b → b ≡ ltb key_limit (length l)
none-told {u} {b} l e t = sym (not-not b) ∙ ap not (sym t ∙ ap is_some e) ∙ flag_is key_limit good None lacks (λ k. refl) refl l
  where
    not-not : (c : Bool) → not (not c) ≡ c
    not-not true = refl
    not-not false = refl
