-- What a merge or an update of an entry lays down is a clock that the map's new clock covers, so within the limit on dots where that one is.
use mathlib.Core.Path.{◌≡◌}
use mathlib.Core.Bool.{true}
use mathlib.Core.List.{List}
use Prim.Native.Nat.{◌≤◌}
use native.Mathlib.Omega.{arith}
use lib.ListN.{length}
use Rattle.clock.specs.declared.Dot.{Dot}
use Rattle.clock.specs.Lawful.{Lawful}
use Rattle.limits.specs.Limits.{dot_limit}
use Rattle.clock.specs.Dots.{covers, join_dots, add_dot}
use Rattle.clock.proofs.Cuts.{lawful-cut, lawful-common}
use Rattle.clock.proofs.Joins.{lawful-join, lawful-add}
use Rattle.clock.proofs.Covers.{covers-trans, covers-join, covers-join-left, covers-join-right, covers-cut}
use Rattle.clock.proofs.Within.{covered-length, covers-common, covers-joins, covers-adds}
use Rattle.entries.specs.declared.Entry.{Entry}
use Rattle.entries.specs.Entries.{keep_dots}
use Rattle.entries.specs.Model.{dots_in}
use Rattle.entries.specs.Valid.{ValidEntry}
use Rattle.entries.proofs.Preserving.{keep-dots}
use Rattle.entries.proofs.Cuts.{lawful-closed, whole-made}

pub lawful-keep : (ours theirs : List Dot) {a b : List Dot} → Lawful a → Lawful b → Lawful (keep_dots ours theirs a b)
lawful-keep ours theirs {a} {b} h k = keep-dots lawful-closed whole-made ours theirs a b h k

module _ (ours theirs : List Dot) {a b : List Dot} (v : Lawful a) (w : Lawful b) where
  -- the dots that are kept are of either clock
  pub covers-keep : covers (join_dots a b) (keep_dots ours theirs a b) ≡ true
  unfolding keep_dots
  covers-keep =
      let both = join_dots a b in
      let common = lawful-common b v in
      let own_cut = lawful-cut theirs v in
      let their_cut = lawful-cut ours w in
      covers-join (lawful-join common own_cut) their_cut both
      (covers-join common own_cut both
      (covers-trans both a _ (covers-join-left v w) (covers-common b v))
      (covers-trans both a _ (covers-join-left v w) (covers-cut theirs v)))
      (covers-trans both b _ (covers-join-right v w) (covers-cut ours w))

module _ {ours theirs : List Dot} {e f : Entry} (h : Lawful ours) (k : Lawful theirs) (v : ValidEntry ours e) (w : ValidEntry theirs f) where
  pub both-covered : covers (join_dots ours theirs) (join_dots (dots_in e) (dots_in f)) ≡ true
  both-covered = covers-joins h k v.clock w.clock v.covered w.covered

  pub keep-covered : covers (join_dots ours theirs) (keep_dots ours theirs (dots_in e) (dots_in f)) ≡ true
  keep-covered =
      covers-trans (join_dots ours theirs) (join_dots (dots_in e) (dots_in f)) _
      both-covered (covers-keep ours theirs v.clock w.clock)

  module _ (n : length (join_dots ours theirs) ≤ dot_limit) where
    pub both-fit : length (join_dots (dots_in e) (dots_in f)) ≤ dot_limit
    both-fit = omega (arith, covered-length (lawful-join v.clock w.clock) (lawful-join h k) both-covered)

    pub keep-fits : length (keep_dots ours theirs (dots_in e) (dots_in f)) ≤ dot_limit
    keep-fits = omega (arith, covered-length (lawful-keep ours theirs v.clock w.clock) (lawful-join h k) keep-covered)

-- an entry's clock with a dot is no longer than the map's clock with it
pub added-length : {seen : List Dot} {e : Entry} → Lawful seen → ValidEntry seen e → (d : Dot)
    → length (add_dot (dots_in e) d) ≤ length (add_dot seen d)
added-length h v d = covered-length (lawful-add v.clock d) (lawful-add h d) (covers-adds h v.clock v.covered d)
