-- How many records the entries of a sketch have.
use mathlib.Core.Path.{◌≡◌, refl, ap, ap₂, sym, ◌∙◌}
use mathlib.Core.List.Memᴰ
use mathlib.Core.List.{List, [], ◌∷◌, ◌++◌, map}
use Prim.Native.Nat.{ℕ, ◌+◌, ◌*◌, ◌-◌, ◌/◌, ◌≤◌, ◌<◌}
use native.Mathlib.Omega.{arith}
use lib.ListN.{length, take, drop, get_or, length-take, length-drop, length-append}
use Rattle.listlaws.specs.Order.{◌∈◌}
use Rattle.listlaws.proofs.Pads.{take-pad}
use Rattle.listlaws.proofs.SliceRests.{drop-step, drop-end}
use Rattle.clock.specs.Dots.{dots_of}
use Rattle.clock.proofs.Packs.{dots-of}
use Rattle.limits.specs.Limits.{value_limit}
use Rattle.register.specs.Values.{no_value}
use Rattle.entries.specs.declared.Entry.{Entry}
use Rattle.mapimage.specs.MapImage.{flat_from, entry_records}
use Rattle.listlaws.specs.Fold.{total_of}
use Rattle.answers.specs.Sizes.{value_size, entry_size}
use Rattle.answers.proofs.Lengths.{in-entries}
use Rattle.runs.specs.Run.{run_dots}
use Rattle.marks.specs.Marks.{picked, marks_set}
use Rattle.marks.proofs.Picks.{length-picked}
use Rattle.marks.proofs.Dots.{length_run}
use Rattle.sketch.specs.declared.Source.{Source}
use Rattle.sketch.specs.declared.Sketched.{Sketched}
use Rattle.walks.specs.Walk.{between}
use Rattle.sketch.specs.Drawn.{value_named, value_from, Placed, source_size, sources_of, clock_apart, drawn, Ready, sections_of}

-- a total over elements that g has changed
pub total-map : {A B : Type 0} (size : A → ℕ) (other : B → ℕ) (g : A → B) (l : List A) → ((x : A) → x ∈ l → size x ≡ other (g x))
    → total_of size l ≡ total_of other (map g l)
unfolding total_of
total-map size other g [] f = refl
total-map size other g (x ∷ l) f = ap₂ ◌+◌ (f x (Memᴰ.head refl)) (total-map size other g l (λ y i. f y (Memᴰ.tail i)))

-- a source stands for its value's records
pub value-size : {s : List ℕ} (x : Source) → Placed s x → source_size x ≡ value_size (value_named s x)
value-size {s} x h =
    let run = between s x.from x.to in
    let a = h.order in
    let b = h.run in
    let n : length (run_dots run) ≡ x.to - x.from =
    length_run run ∙ ap (λ k. k / 16) (length-take (x.to * 16 - x.from * 16) (drop (x.from * 16) s))
    ∙ omega (arith, length-drop (x.from * 16) s) in
    ap (λ k. 1 + k) (sym (ap length (dots-of (picked x.marks (run_dots run)) refl) ∙ length-picked x.marks (run_dots run)
    ∙ ap (λ k. marks_set (take k x.marks)) n))

-- the records of an entry that is drawn
abbrev pub sketched_size : Sketched → ℕ
sketched_size k = length (dots_of (clock_apart k.own)) + total_of source_size (sources_of k)

pub entry-size : {s t : List ℕ} (k : Sketched) → Ready s t k → sketched_size k ≡ entry_size (drawn s t k)
entry-size {s} {t} k h =
    ap₂ ◌+◌ (ap length (sym (dots-of (dots_of (clock_apart k.own)) refl)))
    (total-map source_size value_size (value_from s t) (sources_of k) (λ x i. value-size x (h.each x i))
    ∙ ap (total_of value_size) (sym (take-pad no_value value_limit (map (value_from s t) (sources_of k)))))

-- a loop's turn, and its end
pub total_on : {A : Type 0} (size : A → ℕ) (xs : List A) (i : ℕ) (d : A) → i < length xs
    → total_of size (drop i xs) ≡ size (get_or xs i d) + total_of size (drop (i + 1) xs)
unfolding total_of
total_on size xs i d h = ap (total_of size) (drop-step xs i d h)

pub total-end : {A : Type 0} (size : A → ℕ) (xs : List A) (i : ℕ) → length xs ≤ i → total_of size (drop i xs) ≡ 0
unfolding total_of
total-end size xs i h = ap (total_of size) (drop-end xs i h)

-- one more
pub total-snoc : {A : Type 0} (size : A → ℕ) (l : List A) (x : A) → total_of size (l ++ (x ∷ [])) ≡ total_of size l + size x
unfolding total_of
total-snoc size [] x = omega arith
total-snoc size (y ∷ l) x = omega (arith, total-snoc size l x)

-- all records of entries
pub all-records : (l : List Entry) → total_of entry_size l ≡ length (sections_of l)
all-records l =
    sym (in-entries l)
    ∙ omega (
      arith,
      length-append (flat_from (entry_records 2) 0 l) (flat_from (entry_records 3) 0 l ++ flat_from (entry_records 4) 0 l),
      length-append
          (flat_from (entry_records 3) 0 l) (flat_from (entry_records 4) 0 l),
    )
