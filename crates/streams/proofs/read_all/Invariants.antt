-- `streams::read_all` says what it read: a read leaves no more bytes than the space has, whose length stays, and those before them as they were.
use Rattle.std.proofs.Common.{◌≤◌, length, take, ◌≡◌}
use Rattle.std.specs.Io.KnownBytes.{Consumes}
use Rattle.streams.proofs.read_all.Given as goal

abbrev pub invariant-loop : goal.invariant-loop
invariant-loop g l =
    (l.bytes ≤ length l.space) × (length l.space ≡ length l.initial.space) × Consumes (g.R.Read.remaining l.initial.input) (g.R.Read.remaining l.input) (take l.bytes l.space)
