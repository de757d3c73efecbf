-- What becomes of waiting removals before they are united: those that a clock has seen are emptied, or all are cut.
use mathlib.Core.Path.{◌≡◌, refl, ap, sym, ◌∙◌}
use mathlib.Core.Bool.{Bool, true, false, not, cond}
use mathlib.Core.List.Memᴰ
use mathlib.Core.List.{List, [], ◌∷◌, map}
use mathlib.Core.Logic.{⊎_elim, inl, inr}
use Prim.Native.Nat.{ℕ, zero, suc, ◌<◌}
use native.Mathlib.Omega.{arith}
use lib.ListN.{length, get_or, length-map, get_or-map}
use Rattle.listlaws.specs.Fold.{fold}
use Rattle.listlaws.specs.Order.{◌∈◌}
use Rattle.listlaws.specs.Sift.{sift, those}
use Rattle.listlaws.proofs.Those.{those-ascends}
use Rattle.listlaws.proofs.Twice.{sift-map}
use Rattle.scan.proofs.Eachs.{decide}
use Rattle.clock.specs.declared.Dot.{Dot}
use Rattle.clock.specs.Dots.{dots_of, clock_of, is_empty, covers, cut_dots}
use Rattle.clock.proofs.Packs.{dots-of}
use Rattle.clock.proofs.Joins.{lawful-nil}
use Rattle.clock.proofs.Cuts.{lawful-cut}
use Rattle.removals.specs.declared.Removal.{Removal}
use Rattle.removals.specs.Model.{no_removal, under_of, listed_in}
use Rattle.removals.specs.Waits.{listed, waits, unite_all, unite_into, cut_removal, remains, reset_waiting}
use Rattle.removals.specs.Valid.{ValidRemoval, ValidWaiting}
use Rattle.removals.proofs.Waits.{waits-covers}
use Rattle.removals.proofs.Uniting.{unite-afresh, unite-behind}
use Rattle.oneimagelaws.proofs.Stands.{place-get, place-reads}
use Rattle.queued.specs.Queue.{lists}
use Rattle.queued.specs.Planned.{SoundRemovals, Brings}
use Rattle.planned.specs.declared.Plan.{Plan}
use Rattle.planned.specs.Seats.{united, emptied_where_seen}
use Rattle.planned.specs.Planned.{Plans}

-- the clock of a changed removal
pub changed-at : (f : Removal → Removal) (w : List Removal) (i : ℕ) → i < length w
    → get_or (map under_of (map f w)) i [] ≡ under_of (f (get_or w i no_removal))
changed-at f w i h =
    place-reads [] (place-get (map under_of (map f w)) i (under_of (f no_removal)) (omega (arith, length-map w f, length-map (map f w) under_of)))
    ∙ get_or-map under_of (map f w) i (f no_removal) ∙ ap under_of (get_or-map f w i no_removal)

-- emptied where it was seen, and as it is where not
module _ (seen : List Dot) (r : Removal) where
  pub emptied-seen : covers seen (under_of r) ≡ true → under_of (emptied_where_seen seen r) ≡ []
  emptied-seen t = let e : waits seen r ≡ false = waits-covers seen r ∙ ap not t in ap (λ b. dots_of (cond b r.clock (clock_of []))) e

  pub emptied-not : covers seen (under_of r) ≡ false → under_of (emptied_where_seen seen r) ≡ under_of r
  emptied-not f = let e : waits seen r ≡ true = waits-covers seen r ∙ ap not f in ap (λ b. dots_of (cond b r.clock (clock_of []))) e

pub cut-under : (c : List Dot) (r : Removal) → under_of (cut_removal c r) ≡ cut_dots c (under_of r)
cut-under c r = dots-of (cut_dots c (under_of r)) refl

-- they stay sound
pub sound-emptied : (seen : List Dot) {w : List Removal} → SoundRemovals w → SoundRemovals (map (emptied_where_seen seen) w)
sound-emptied seen {w} s x i =
    let (r, j, e) = Memᴰ.of_map (emptied_where_seen seen) w i in
    rw (← e) (go r (s r j))
  where
    go : (r : Removal) → ValidRemoval r → ValidRemoval (emptied_where_seen seen r)
    go r v =
        decide (covers seen (under_of r))
        (λ t. let q = emptied-seen seen r t in
        record {
          laid = λ k. record { clock = (clocks true t ∙ ap clock_of (sym q)) k; keys = (v.laid k).keys };
          clock = rw q lawful-nil;
          keys = v.keys;
        })
        (λ f. let q = emptied-not seen r f in
        record {
          laid = λ k. record {
            clock = (clocks false f ∙ ap (λ (y : Removal). y.clock) v.laid ∙ ap clock_of (sym q)) k;
            keys = (v.laid k
                ).keys;
          };
          clock = rw q v.clock;
          keys = v.keys;
        })
      where
        clocks : (b : Bool) → covers seen (under_of r) ≡ b → (emptied_where_seen seen r).clock ≡ cond b (clock_of []) r.clock
        clocks true t = let e : waits seen r ≡ false = waits-covers seen r ∙ ap not t in ap (λ b. cond b r.clock (clock_of [])) e
        clocks false t = let e : waits seen r ≡ true = waits-covers seen r ∙ ap not t in ap (λ b. cond b r.clock (clock_of [])) e

pub sound-cut : (c : List Dot) {w : List Removal} → SoundRemovals w → SoundRemovals (map (cut_removal c) w)
sound-cut c {w} s x i =
    let (r, j, e) = Memᴰ.of_map (cut_removal c) w i in
    let v = s r j in
    rw (← e) (record {
      laid = λ k. record { clock = clock_of (sym (cut-under c r) k); keys = (v.laid k).keys };
      clock = rw (cut-under c r)
          (lawful-cut c v.clock);
      keys = v.keys;
    })

-- those that remain are those that wait
waiting-sift : (seen : List Dot) (w : List Removal) → ((r : Removal) → r ∈ w → is_empty (under_of r) ≡ false)
    → sift remains (emptied_where_seen seen) w ≡ those (waits seen) w
unfolding sift
waiting-sift seen [] some = refl
waiting-sift seen (r ∷ w) some = go (waits seen r) (waiting-sift seen w (λ x i. some x (Memᴰ.tail i)))
  where
    go : (b : Bool) → sift remains (emptied_where_seen seen) w ≡ those (waits seen) w
        → cond (remains (record { clock = cond b r.clock (clock_of []); keys = r.keys }))
        (record { clock = cond b r.clock (clock_of []); keys = r.keys } ∷ sift remains (emptied_where_seen seen) w)
        (sift remains (emptied_where_seen seen) w) ≡
        cond b (r ∷ those (waits seen) w) (those (waits seen) w)
    go true e = rw (some r (Memᴰ.head refl)) (ap (λ l. r ∷ l) e)
    go false e = unfold is_empty in e

pub waits-remain : (seen : List Dot) (w : List Removal) → ((r : Removal) → r ∈ w → is_empty (under_of r) ≡ false)
    → those remains (map (emptied_where_seen seen) w) ≡ those (waits seen) w
waits-remain seen w some = sift-map remains (λ x. x) (emptied_where_seen seen) w ∙ waiting-sift seen w some

-- the keys of removals that were changed under their clocks only
pub lists-same : (f : Removal → Removal) → ((r : Removal) → listed_in (f r) ≡ listed_in r) → (w : List Removal) (a key : ℕ)
    → lists (map f w) a key ≡ lists w a key
lists-same f e [] a key = refl
lists-same f e (r ∷ w) zero key = ap (λ l. listed l key) (e r)
lists-same f e (r ∷ w) (suc a) key = lists-same f e w a key

pub brings-same : (f : Removal → Removal) → ((r : Removal) → listed_in (f r) ≡ listed_in r) → (w : List Removal) (table : List ℕ) (j key : ℕ)
    → Brings (map f w) table j key → Brings w table j key
brings-same f e w table j key b = record { from = b.from; low = b.low; goes = b.goes; has = sym (lists-same f e w b.from key) ∙ b.has }

pub same-brings : (f : Removal → Removal) → ((r : Removal) → listed_in (f r) ≡ listed_in r) → (w : List Removal) (table : List ℕ) (j key : ℕ)
    → Brings w table j key → Brings (map f w) table j key
same-brings f e w table j key b = record { from = b.from; low = b.low; goes = b.goes; has = lists-same f e w b.from key ∙ b.has }

-- a plan of changed removals is one of the removals themselves
module _ (f : Removal → Removal) (e : (r : Removal) → listed_in (f r) ≡ listed_in r) where
  pub plans-same : {s t : List ℕ} (w v : List Removal) {result : List Removal} {p : Plan} → Plans s t (map f w) (map f v) result p
      → Plans s t w v result p
  plans-same w v {p = p} h = record {
    over = h.over;
    count = h.count;
    clocks = h.clocks;
    moves = λ z. let m = h.moves z in record {
      first = λ j key g b. m.first j key g (same-brings f e w p.ours j key b);
      second = λ j key g b. m.second j key g (same-brings f e v p.theirs j key b);
      only = λ j key g t. ⊎_elim (λ b. inl (brings-same f e w p.ours j key b)) (λ b. inr (brings-same f e v p.theirs j key b))
          (m.only j key g t);
    };
  }

-- what is united of two queues, without what a clock has seen
pub united-merge : (seen : List Dot) {w v : List Removal} → ValidWaiting w → ValidWaiting v
    → united (map (emptied_where_seen seen) w) (map (emptied_where_seen seen) v) ≡ unite_all (those (waits seen) w) (those (waits seen) v)
united-merge seen {w} {v} a b =
    rw (waits-remain seen w a.some, waits-remain seen v b.some, unite-afresh (those-ascends (waits seen) a.rising))
    (unite-behind (those (waits seen) w) (those-ascends (waits seen) b.rising))

pub united-reset : (c : List Dot) (w : List Removal) → united (map (cut_removal c) w) [] ≡ reset_waiting c w
unfolding reset_waiting fold sift
united-reset c w = ap (fold unite_into []) (sift-map remains (λ x. x) (cut_removal c) w)
