use Rattle.std.proofs.Common.{rules, ℕ, ◌-◌, length, subst, sym, take}
use Rattle.std.specs.Io.KnownBytes.{Consumes}
use Rattle.streams.proofs.Bytes.{more-read, none-read}
use borrow.Rule.Slice.PartMut.{put_mid}
use Rattle.streams.proofs.read_all.Goals as goal
use Rattle.streams.proofs.read_all.Goals.{in-Ok, in-Err+else-ne}

-- One read more: the bytes before it are as they were, and those that it brought, or none, are the reader's next.
pub loop-preserved : goal.loop-preserved
loop-preserved g c =
    let from = c.loop.bytes in
    let mid = c.loop.space in
    let new = c.read.new.buf in
    let counted : ℕ → Type 0 = λ n. Consumes (g.R.Read.remaining c.args.input.now) (g.R.Read.remaining c.read.new.self) (take n (put_mid from (length mid - from) mid new)) in
    elim c.match-read.branch [
      | in-Ok w ↦ (search rules, search rules, subst counted (sym w.bytes-is) (more-read _ _ _ mid new from _ c.loop.invariant.0 c.loop.invariant.2 w.in-Ok.more w.in-Ok.ensures.bound.0 w.in-Ok.ensures.bytes.0))
      | in-Err+else-ne w ↦ (search rules, search rules, subst counted (sym w.bytes-is) (none-read _ _ _ mid new from _ c.loop.invariant.0 c.loop.invariant.2 w.in-Err.ensures.bytes))
    ]
