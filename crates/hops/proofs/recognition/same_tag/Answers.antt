-- The words are equal exactly if the bytes are.
use Rattle.hops.proofs.Tests.{same-words}
use Rattle.hops.proofs.recognition.same_tag.Goals as goal

pub returns : goal.returns
returns c = let e = same-words c.args.found.now c.args.tag.now c.told-found c.told-tag c.fits-found c.fits-tag in cc
