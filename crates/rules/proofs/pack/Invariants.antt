-- The automaton has a state where the reader stands, and what was read is kept, as far as no limit is passed.
use Rattle.rules.proofs.Theory.Code.Running.{Told}
use Rattle.rules.proofs.pack.Given as goal

abbrev pub invariant-loop-i : goal.invariant-loop-i
invariant-loop-i l = Told l.text l.i l.here l.head l.body l.constants l.nodes
