-- Runs behind each other are one run, so that what holds of a run holds in the middle of a longer one, whatever operations stand around it.
use mathlib.Core.Path.{◌≡◌, refl, ap, sym, ◌∙◌}
use mathlib.Core.List.Memᴰ
use mathlib.Core.List.{List, [], ◌∷◌, ◌++◌}
use Prim.Native.Nat.{ℕ}
use Rattle.listlaws.specs.Fold.{fold}
use Rattle.listlaws.proofs.Folds.{fold-append}
use Rattle.map.specs.declared.Map.{Map}
use Rattle.anyorderlaws.specs.Calls.{image_after, AllDone, none, more, end, Trade, MapImage, OpImages}
use Rattle.anyorderlaws.proofs.Images.{ImageOf, start, image-accepted, done-means, image-next}

pub passed-split : {s : List ℕ} (a : List (List ℕ)) {b : List (List ℕ)} → AllDone s (a ++ b) → AllDone s a × AllDone (end s a) b
unfolding fold
passed-split [] p = (none, p)
passed-split {s = s} (o ∷ a) (more d p) = let r = passed-split {s = image_after s o} a p in (more d r.0, r.1)

pub passed-join : {s : List ℕ} {a b : List (List ℕ)} → AllDone s a → AllDone (end s a) b → AllDone s (a ++ b)
unfolding fold
passed-join none q = q
passed-join (more d p) q = more d (passed-join p q)

-- a run of any operations leaves an accepted image
after_run : {s : List ℕ} {m : Map} {ops : List (List ℕ)} → ImageOf s m → OpImages ops → AllDone s ops → MapImage (end s ops)
unfolding fold
after_run r f none = image-accepted r
after_run {ops = o ∷ ops} r f (more d p) =
    let i = f o (Memᴰ.head refl) in after_run (image-next r i (done-means r i d)) (λ q j. f q (Memᴰ.tail j)) p

pub after : {s : List ℕ} {ops : List (List ℕ)} → MapImage s → OpImages ops → AllDone s ops → MapImage (end s ops)
after h f p = after_run (start h) f p

-- a part of a run may be replaced by another that is accepted where it stands and ends in the same image
module _ {s : List ℕ} (before a b behind : List (List ℕ)) where
  pub replaced : AllDone s (before ++ (a ++ behind)) → AllDone (end s before) b × (end (end s before) b ≡ end (end s before) a)
      → AllDone s (before ++ (b ++ behind)) × (end s (before ++ (b ++ behind)) ≡ end s (before ++ (a ++ behind)))
  replaced p q =
      let r = passed-split before p in
      let t = passed-split a r.1 in (
        passed-join r.0 (passed-join q.0 (rw (← q.1) at t.1)),
        fold-append image_after s before (b ++ behind) ∙ fold-append image_after (end s before) b behind ∙ ap (λ x. end x behind) q.1
            ∙ sym (fold-append image_after (end s before) a behind) ∙ sym (fold-append image_after s before (a ++ behind)),
      )

-- two neighbours of a run
module _ {s : List ℕ} (before : List (List ℕ)) (u v : List ℕ) (behind : List (List ℕ)) where
  pub traded : Trade (end s before) u v → AllDone s (before ++ (u ∷ v ∷ behind)) → AllDone s (before ++ (v ∷ u ∷ []))
      → AllDone s (before ++ (v ∷ u ∷ behind)) × (end s (before ++ (v ∷ u ∷ behind)) ≡ end s (before ++ (u ∷ v ∷ behind)))
  traded t p q =
      let other = (passed-split before q).1 in
      replaced before (u ∷ v ∷ []) (v ∷ u ∷ []) behind p (other, sym (t (passed-split (u ∷ v ∷ []) (passed-split before p).1).0 other))
