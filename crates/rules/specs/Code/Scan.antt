-- The reader of a rule, byte by byte, as the code has it: each function's result. Definitions only; the laws are in Code/Scan/.
use Rattle.std.specs.Prelude.{ℕ, ◌-◌, Bool, true, false, ◌&&◌, ◌||◌, cond, List, [], ◌∷◌, get_or, eqb, ltb, Option, Some, None, unwrap_or}
use Rattle.rules.specs.declared.mode.Mode.{Mode}
use Rattle.rules.specs.declared.mode.Mode.TheVariants.{Out, Start}
use Rattle.rules.specs.declared.scan.Reader.{Reader as Place}
use Rattle.rules.specs.Code.Modes.{next_mode, effect_of, suits}
use Rattle.rules.specs.Code.Draft.{Head, Body, empty_head, empty_body, capped_more, put_column, body_of, put_term, put_relation, put_equality}

-- All that is kept of a rule beside its constants and nodes: where the reader stands, the head and the goals.
pub record Draft : Type 0 where
  pub mode : Mode
  pub number : ℕ
  pub started : Bool
  pub head : Head
  pub body : Body

abbrev pub draft_of : Mode → ℕ → Bool → Head → Body → Draft
draft_of m n s h b = record { mode = m; number = n; started = s; head = h; body = b }

abbrev pub start_draft : Draft
start_draft = draft_of Start 0 false empty_head empty_body

abbrev pub moved_to : Mode → Head → Body → Draft
moved_to m h b = draft_of m 0 false h b

-- None follows a first 0.
abbrev pub digit_mode : Mode → ℕ → Bool → Mode
digit_mode m n started = cond (started && eqb n 0) Out (next_mode m 48)

abbrev pub digit_step : Draft → ℕ → Draft
digit_step d b = draft_of (digit_mode d.mode d.number d.started) (capped_more d.number (b - 48)) true d.head d.body

-- The goals, the constants and the nodes.
abbrev pub Goals : Type 0
Goals = Body × (List ℕ × List ℕ)

abbrev pub with_denied : Body → Body
with_denied b = body_of true b.named b.subject b.terms b.count b.seen b.constants b.nodes b.over

abbrev pub with_number : Body → ℕ → Body
with_number b n = body_of b.denied b.named n b.terms b.count b.seen b.constants b.nodes b.over

abbrev pub with_name : Body → Body
with_name b = body_of b.denied true b.subject b.terms b.count b.seen b.constants b.nodes b.over

abbrev pub term_step : Body → ℕ → List ℕ → List ℕ → Goals
term_step b n cs ns = let t = put_term b n cs in (t.0, (t.1, ns))

abbrev pub relation_step : Goals → Goals
relation_step g = let r = put_relation g.0 g.1.1 in (r.0, (g.1.0, r.1))

abbrev pub equality_step : Goals → Goals
equality_step g = let r = put_equality g.0 g.1.1 in (r.0, (g.1.0, r.1))

-- What each effect does to the goals.
abbrev pub by_effect : ℕ → Body → ℕ → List ℕ → List ℕ → Goals
by_effect e b n cs ns =
    get_or
    ((b, (cs, ns))
    ∷ (b, (cs, ns))
    ∷ (with_denied b, (cs, ns))
    ∷ (with_number b n, (cs, ns))
    ∷ (with_name b, (cs, ns))
    ∷ term_step b n cs ns
    ∷ relation_step (term_step b n cs ns)
    ∷ equality_step (term_step b n cs ns)
    ∷ [])
    e
    (b, (cs, ns))

-- Nothing more is kept of a rule past a limit.
abbrev pub body_step : ℕ → Body → ℕ → List ℕ → List ℕ → Goals
body_step e b n cs ns = cond b.over (b, (cs, ns)) (by_effect e b n cs ns)

abbrev pub turned : Mode → Head → Goals → Draft × (List ℕ × List ℕ)
turned m h g = (moved_to m h g.0, g.1)

-- A step to the mode `to`, with an effect.
abbrev pub turn_by : ℕ → Mode → Draft → List ℕ → List ℕ → Draft × (List ℕ × List ℕ)
turn_by e to d cs ns =
    cond
    (suits e d.started)
    (cond (eqb e 1) (moved_to to (put_column d.head d.number) d.body, (cs, ns)) (turned to d.head (body_step e d.body d.number cs ns)))
    (moved_to Out d.head d.body, (cs, ns))

abbrev pub turn_step : Draft → ℕ → List ℕ → List ℕ → Draft × (List ℕ × List ℕ)
turn_step d b cs ns = turn_by (effect_of d.mode b) (next_mode d.mode b) d cs ns

abbrev pub draft_step : Draft → ℕ → List ℕ → List ℕ → Draft × (List ℕ × List ℕ)
draft_step d b cs ns = cond (ltb b 48 || ltb 57 b) (turn_step d b cs ns) (digit_step d b, (cs, ns))

-- ---- where the reader stands, without the head and the goals

-- Its mode, the number being read, or 0, and whether a digit of it has been read.
pub record Reader : Type 0 where
  pub mode : Mode
  pub number : ℕ
  pub started : Bool

abbrev pub reader_of : Mode → ℕ → Bool → Reader
reader_of m n s = record { mode = m; number = n; started = s }

-- The place that the code has.
abbrev pub is_begun : Option ℕ → Bool
is_begun None = false
is_begun (Some n) = true

abbrev pub reader_from : Place → Reader
reader_from p = reader_of p.mode (unwrap_or p.number 0) (is_begun p.number)

abbrev pub start_reader : Reader
start_reader = reader_of Start 0 false

abbrev pub digit_reader : Reader → ℕ → Reader
digit_reader p b = reader_of (digit_mode p.mode p.number p.started) (capped_more p.number (b - 48)) true

abbrev pub turn_mode : Mode → Bool → ℕ → Mode
turn_mode m started b = cond (suits (effect_of m b) started) (next_mode m b) Out

abbrev pub turn_reader : Reader → ℕ → Reader
turn_reader p b = reader_of (turn_mode p.mode p.started b) 0 false

abbrev pub reader_step : Reader → ℕ → Reader
reader_step p b = cond (ltb b 48 || ltb 57 b) (turn_reader p b) (digit_reader p b)

-- What a byte does. A digit does nothing to the head and the goals.
abbrev pub effect_at : Mode → ℕ → ℕ
effect_at m b = cond (ltb b 48 || ltb 57 b) (effect_of m b) 0

-- The draft of a place, a head and goals.
abbrev pub draft_at : Reader → Head → Body → Draft
draft_at p h b = draft_of p.mode p.number p.started h b
