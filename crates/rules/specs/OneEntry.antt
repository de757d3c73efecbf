-- 01 "Map", what becomes of one entry: stated once, over what an entry holds and over how an entry is stored.
use Rattle.std.specs.Prelude.{Bool, not, List, [], ℕ, eqb}
use Rattle.listlaws.specs.First.{first_in}
use Rattle.clock.specs.declared.Dot.{Dot}
use Rattle.clock.specs.Dots.{is_empty, cut_dots, common_dots, join_dots, add_dot}

-- what a map asks of the values that its entries hold, the Rust's `Val`: the default, `reset_remove`, `merge`, `apply`
pub record Holds (A O : Type 0) : Type 0 where
  pub none : A
  pub cut : List Dot → A → A
  pub merge : A → A → A
  pub apply : A → O → A

-- how an entry is stored: its key, its clock, its value, and an entry of these
pub record Stored (A E : Type 0) : Type 0 where
  pub key : E → ℕ
  pub dots : E → List Dot
  pub val : E → A
  pub entry : ℕ → List Dot → A → E

-- "Every entry clock is non-empty": an entry whose clock is emptied goes
abbrev pub stays_by : {A E : Type 0} → Stored A E → E → Bool
stays_by s e = not (is_empty (s.dots e))

-- "keep = common dots, joined with each entry clock cut by the other map's clock"
unfoldable pub keep_dots : List Dot → List Dot → List Dot → List Dot → List Dot
keep_dots ours theirs a b = join_dots (join_dots (common_dots a b) (cut_dots theirs a)) (cut_dots ours b)

module _ {A O E : Type 0} (s : Stored A E) (r : Holds A O) where
  -- "cut its clock; .. cut the register"
  abbrev pub cut_entry_by : List Dot → E → E
  cut_entry_by c e = s.entry (s.key e) (cut_dots c (s.dots e)) (r.cut c (s.val e))

  -- "add the dot to the entry, apply the put"
  abbrev pub put_entry_by : Dot → O → E → E
  put_entry_by d o e = s.entry (s.key e) (add_dot (s.dots e) d) (r.apply (s.val e) o)

  -- the entry of a key, "(a new one if absent)"
  abbrev pub entry_at_by : ℕ → List E → E
  entry_at_by k l = first_in (λ e. eqb (s.key e) k) (λ e. e) (s.entry k [] r.none) l

  -- "cut the entry clock by the other map's clock, and cut the register by (other map's clock cut by the new entry clock)"
  abbrev pub cut_alone_by : List Dot → E → E
  cut_alone_by other e =
      let left = cut_dots other (s.dots e) in
      s.entry (s.key e) left (r.cut (cut_dots left other) (s.val e))

  -- "merge registers, cut the result by (both entry clocks joined, then cut by keep), entry clock = keep"
  abbrev pub merge_both_by : List Dot → List Dot → E → E → E
  merge_both_by ours theirs e f =
      let keep = keep_dots ours theirs (s.dots e) (s.dots f) in
      s.entry (s.key e) keep (r.cut (cut_dots keep (join_dots (s.dots e) (s.dots f))) (r.merge (s.val e) (s.val f)))
