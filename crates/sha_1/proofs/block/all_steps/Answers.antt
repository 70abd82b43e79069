-- Sixteen words make the next sixteen, and twenty steps follow one another.
use Rattle.std.proofs.Common.{◌≡◌, ℕ, List, length, drop, refl, ap, arith}
use Rattle.sha_1.specs.Quads.{sixteen_at}
use Rattle.sha_1.specs.Sha1.{Ch, Parity, Maj, schedule, steps}
use Rattle.sha_1.specs.declared.words.Quad.{Quad}
use Rattle.sha_1.specs.declared.words.Sixteen.{Sixteen}
use Rattle.sha_1.specs.declared.words.Working.{Working}
use Rattle.sha_1.proofs.Schedule.{schedule-length, sixteen-on, steps-twenty, steps_all}
use Rattle.sha_1.proofs.block.all_steps.Goals as goal

abbrev p : Sixteen → Quad
p x = x.p

abbrev q : Sixteen → Quad
q x = x.q

abbrev r : Sixteen → Quad
r x = x.r

abbrev s : Sixteen → Quad
s x = x.s

pub returns : goal.returns
returns c =
    let block : List ℕ = c.args.block.now in
    let ws : List ℕ = schedule block in
    let all : Working = steps 0 ws c.args.start in
    let n : length ws ≡ 80 = schedule-length block in
    let w : c.block_words-w.result ≡ sixteen_at ws 0 = c.block_words-w.ensures in
    let x : c.next_sixteen-x.result ≡ sixteen_at ws 16 = sixteen-on block 0 16 c.block_words-w.result _ (omega arith) refl w c.next_sixteen-x.ensures in
    let y : c.next_sixteen-y.result ≡ sixteen_at ws 32 = sixteen-on block 16 32 c.next_sixteen-x.result _ (omega arith) refl x c.next_sixteen-y.ensures in
    let z : c.next_sixteen-z.result ≡ sixteen_at ws 48 = sixteen-on block 32 48 c.next_sixteen-y.result _ (omega arith) refl y c.next_sixteen-z.ensures in
    let last : c.next_sixteen-last.result ≡ sixteen_at ws 64 = sixteen-on block 48 64 c.next_sixteen-z.result _ (omega arith) refl z c.next_sixteen-last.ensures in
    let at20 : steps 20 (drop 20 ws) c.twenty_steps-v.result ≡ all
    = steps-twenty Ch 0x5A827999 ws 0 _ _ _ _ _ c.args.start _ all (omega arith)
    (λ q rest v. refl) (λ q rest v. refl) (λ q rest v. refl) (λ q rest v. refl) (λ q rest v. refl)
    (ap p w) (ap q w) (ap r w) (ap s w) (ap p x) c.twenty_steps-v.ensures refl in
    let at40 : steps 40 (drop 40 ws) c.twenty_steps-v-2.result ≡ all
    = steps-twenty Parity 0x6ED9EBA1 ws 20 _ _ _ _ _ c.twenty_steps-v.result _ all (omega arith)
    (λ q rest v. refl) (λ q rest v. refl) (λ q rest v. refl) (λ q rest v. refl) (λ q rest v. refl)
    (ap q x) (ap r x) (ap s x) (ap p y) (ap q y) c.twenty_steps-v-2.ensures at20 in
    let at60 : steps 60 (drop 60 ws) c.twenty_steps-v-3.result ≡ all
    = steps-twenty Maj 0x8F1BBCDC ws 40 _ _ _ _ _ c.twenty_steps-v-2.result _ all (omega arith)
    (λ q rest v. refl) (λ q rest v. refl) (λ q rest v. refl) (λ q rest v. refl) (λ q rest v. refl)
    (ap r y) (ap s y) (ap p z) (ap q z) (ap r z) c.twenty_steps-v-3.ensures at40 in
    let at80 : steps 80 (drop 80 ws) c.twenty_steps.result ≡ all
    = steps-twenty Parity 0xCA62C1D6 ws 60 _ _ _ _ _ c.twenty_steps-v-3.result _ all (omega arith)
    (λ q rest v. refl) (λ q rest v. refl) (λ q rest v. refl) (λ q rest v. refl) (λ q rest v. refl)
    (ap s z) (ap p last) (ap q last) (ap r last) (ap s last) c.twenty_steps.ensures at60 in
    steps_all ws 80 c.twenty_steps.result all (omega arith) at80
