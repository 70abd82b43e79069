use Rattle.std.proofs.Common.{◌≡◌, ℕ, ◌+◌, ◌-◌, List, ◌++◌, length, take, drop, sym, refl, ap, ◌∙◌, arith}
use Rattle.std.proofs.lemmas.List.{length-take-le, take_all, take_rest}
use Rattle.hash_blocks.specs.Blocks.{running_at}
use Rattle.hash_blocks.proofs.Feed.{feed-short, feed-chunks, feed-law}
use Rattle.hash_blocks.proofs.buffer.Buffer.feed.Goals as goal

pub returns-then-bytes-room : goal.returns-then-bytes-room
returns-then-bytes-room g c =
    let fill : ℕ = c.args.self.now.fill in
    let old : List ℕ = take fill c.args.self.now.block in
    let r : length old ≡ fill = length-take-le fill c.args.self.now.block (omega (arith, c.args.self.now.unfinished, c.args.self.now.size)) in
    let s = g.S.BlockFunction.view c.args.self.now.state in
    record {
      fed = ap (running_at s) c.put.ensures.front ∙ sym (feed-short g.row.W g.S.BlockFunction.after s old c.args.bytes.now (omega arith));
      law = feed-law;
    }

pub returns-else-bytes-room : goal.returns-else-bytes-room
returns-else-bytes-room g c =
    let bs : List ℕ = c.args.bytes.now in
    let fill : ℕ = c.args.self.now.fill in
    let n : ℕ = g.row.W - fill in
    let view = g.S.BlockFunction.view in
    let old : length (take fill c.args.self.now.block) ≡ fill = length-take-le fill c.args.self.now.block (omega (arith, c.args.self.now.unfinished, c.args.self.now.size)) in
    let later : List ℕ = take (length bs - n) (drop n bs) in
    let rest : List ℕ = c.as_chunks.result.1.now in
    let first : length (take n bs) ≡ n = length-take-le n bs (omega arith) in
    let filled = c.put-else-bytes-room.ensures.front in
    let whole : c.put-else-bytes-room.new.block ≡ take fill c.args.self.now.block ++ take n bs
    = sym (take_all (fill + length (take n bs)) c.put-else-bytes-room.new.block (omega (arith, c.put-else-bytes-room.ensures.size, c.args.self.now.unfinished, c.args.self.now.size))) ∙ filled in
    record {
      fed = ap (λ (j : ℕ). running_at (view c.absorb_all.new.state) (take j c.put-else-bytes-room-2.new.block)) (omega arith)
          ∙ ap (running_at (view c.absorb_all.new.state)) c.put-else-bytes-room-2.ensures.front
          ∙ feed-chunks g.row.W g.S.BlockFunction.after (view c.args.self.now.state) (view c.absorb.new.self) (view c.absorb_all.new.state)
          (take fill c.args.self.now.block) bs (take n bs) later rest c.as_chunks.result.0.now n
          (omega arith) (omega (arith, c.args.self.now.unfinished, c.args.self.now.size)) (omega (arith, c.args.self.now.unfinished, c.args.self.now.size))
          refl (take_rest bs n) c.as_chunks.ensures.front c.as_chunks.ensures.back (c.absorb.ensures ∙ ap (g.S.BlockFunction.after (view c.args.self.now.state)) whole) c.absorb_all.ensures;
      law = feed-law;
    }
