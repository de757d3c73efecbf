-- The end theorems over the calls: a withdrawn value stays away, and drives that were fed the same operations by the guard end alike.
use mathlib.Core.Path.{◌≡◌, ap, ◌∙◌}
use mathlib.Core.Bool.{true}
use mathlib.Core.List.Memᴰ
use mathlib.Core.List.{List, []}
use Prim.Native.Nat.{ℕ}
use Rattle.maprecords.specs.Related.{read_map}
use Rattle.anyorderlaws.specs.Calls.{OpImages}
use Rattle.alikelaws.specs.Among.{UpdateIn, RemovalIn}
use Rattle.alikelaws.specs.Honest.{Honest}
use Rattle.listlaws.specs.Order.{◌∈◌}
use Rattle.alikelaws.specs.Runs.{op_of, ops_of, OwnDots}
use Rattle.alikelaws.specs.Withdrawal.{NotForeign}
use Rattle.alikelaws.specs.Picture.{Pictures}
use Rattle.alikelaws.specs.Agreement.{Fed}
use Rattle.alikelaws.specs.EndingAlike.{AllIn, EndingAlike}
use Rattle.alikelaws.proofs.Guards.{not-foreign, foreign-word}
use Rattle.alikelaws.proofs.Calls.{valid-ops, stays-away-called}
use Rattle.alikelaws.proofs.Converging.{right_end}
use Rattle.alikelaws.proofs.Agreeing.{fed-run, fed-map, same-ops, agree}
use Rattle.alikelaws.proofs.MakingCalls.{calls-honest, made-nowhere}

-- section 4, of a map that was fed by the guard
fed-pictured : {h ops : List (List ℕ)} {last : List ℕ} → OpImages h → Honest (ops_of h) → AllIn h ops → Fed [] ops last
    → Pictures (UpdateIn (ops_of ops)) (RemovalIn (ops_of ops)) (read_map last).map
fed-pictured {h} {ops} i honest f c =
    let images : OpImages ops = λ o j. i o (f o j) in
    rw (fed-map images c) (right_end (valid-ops h) honest (ops_of ops) (same-ops ops h f) (fed-run images c)).pictures

-- T1's premise, by the guard's answer on any map
own-dots : {ops : List (List ℕ)} → OpImages ops → ((o : List ℕ) → o ∈ ops → NotForeign o) → OwnDots (ops_of ops)
own-dots {ops} f g u i =
    let y = Memᴰ.of_map op_of ops i.stands in
    let n = g y.0 y.1 in
    let up : (op_of y.0).up ≡ true = ap (λ o. o.up) y.2 ∙ i.updates in
    let own = not-foreign (read_map n.map).map (op_of y.0) up (λ e. n.other
    (n.asked ∙ foreign-word n.image.accepted (f y.0 y.1).accepted e)) in
    let same : (op_of y.0).update ≡ u = ap (λ o. o.update) y.2 ∙ i.is in
    rw same at own

pub ending-alike : EndingAlike
ending-alike = record {
  stays-away = stays-away-called;
  own-asked = own-dots;
  stands-nowhere = λ m d k p w. made-nowhere m d k p w;
  pictured = fed-pictured;
  converge = λ i honest f e c d. agree i honest f e c d;
  made-honest = calls-honest;
  made-converge = λ m f e c d. let b = calls-honest m in agree b.0 b.1 f e c d;
}
