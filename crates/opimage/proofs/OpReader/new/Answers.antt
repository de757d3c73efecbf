-- `OpReader::new` meets its contract.
use mathlib.Core.Path.{refl}
use Rattle.listlaws.specs.Sift.{sift}
use Rattle.listlaws.specs.Fold.{fold}
use Rattle.opimage.specs.OpImage.{record_of}
use Rattle.opimage.proofs.Packs.{no-counts}
use Rattle.opimage.proofs.OpReader.new.Goals as goal

pub returns : goal.returns
unfolding sift fold record_of
returns c = record {
  scanned = c.new-scan.ensures 7 12;
  parts = λ _. record {
    counts = no-counts;
    head = refl;
    value = refl;
    under = c.new-none.ensures;
    keys = c.new-keys.ensures;
    put = c.new-none.ensures;
  };
}
