-- The end of a rule, as the code has it: the quantifiers, and the reply. Definitions only; the laws are in Code/Finish/.
use Rattle.std.specs.Prelude.{ℕ, zero, suc, ◌+◌, ◌*◌, ◌-◌, ◌≤◌, ◌<◌, Bool, false, not, ◌&&◌, cond, List, [], ◌∷◌, get_or, take, replicate, ltb}
use Rattle.calculus.specs.Sets.{any_of, member}
use Rattle.causes.specs.Causes.{Done}
use Rattle.query.specs.Nodes.{exists_word}
use Rattle.query.specs.Reading.{max_nodes}
use Rattle.query.specs.Packing.{packed_bytes}
use Rattle.query.specs.Code.Writing.{overlay}
use Rattle.rules.specs.Reply.{Packing, max_bytes, refused}
use Rattle.rules.specs.Meaning.{max_terms}
use Rattle.rules.specs.Code.Draft.{Head, Body, Nodes, add_word, onward}

-- The bounds of a head, for the laws. The code's indices rest on the facts of `Head` in kept.rt, which have them too.
pub record Variables (h : Head) : Type 0 where
  pub few : h.count ≤ max_terms
  pub small : (i : ℕ) → get_or h.variables i 0 < 16

-- Whether a goal has x and the head doesn't.
abbrev pub is_bound : Head → List Bool → ℕ → Bool
is_bound h seen x = get_or seen x false && not (member x (take h.count h.variables))

-- The numbers below n that pass a test, the highest first.
abbrev pub bound_down : (ℕ → Bool) → ℕ → List ℕ
bound_down p zero = []
bound_down p (suc x) = cond (p x) (x ∷ bound_down p x) (bound_down p x)

-- An exists over the last node for each variable, one after the other.
abbrev pub bind_all : List ℕ → ℕ → List ℕ → Nodes
bind_all [] n ns = (n, ns)
bind_all (x ∷ xs) n ns = onward (add_word (exists_word x (n - 1)) n ns) (bind_all xs)

abbrev pub packing_of : List ℕ → ℕ → List ℕ → ℕ → Packing
packing_of cs k ns n =
    record {
      answer = Done;
      query = record { constants = cs; constant_count = k; nodes = ns; node_count = n };
      bytes = overlay 0 (packed_bytes (take k cs) (take n ns)) (replicate max_bytes 0);
      size = 2 + 4 * k + 4 * n;
    }

-- The nodes with their quantifiers, where they have room.
abbrev pub quantified_reply : Body → List ℕ → Nodes → ℕ → Packing
quantified_reply b cs a length = cond (ltb max_nodes a.0) (refused length) (packing_of cs b.constants a.1 a.0)

abbrev pub finished : Head → Body → List ℕ → List ℕ → ℕ → Packing
finished h b cs ns length =
    cond
    h.over
    (refused length)
    (cond
    b.over
    (refused length)
    (cond
    (any_of (λ x. not (get_or b.seen x false)) (take h.count h.variables))
    (refused length)
    (quantified_reply b cs (bind_all (bound_down (is_bound h b.seen) 16) b.nodes ns) length)))
