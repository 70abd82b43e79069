use Rattle.model.proofs.RunLaw.{run-law}
use Rattle.model.proofs.TableLaw.{table-law}
use Rattle.model.proofs.law_stands.Goals as goal

pub returns : goal.returns
returns g c =
    record {
      table = table-law _;
      run = run-law _ (record { remove_undoes_add = g.met.C.Cipher.remove_undoes_add; added_length = g.met.C.Cipher.added_length; tag_length = g.met.D.Digest.tag_length });
    }
