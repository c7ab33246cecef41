-- What has been read of a rule, as the code keeps it: each function's result. Definitions only; the laws are in Code/Draft/.
use Rattle.std.specs.Prelude.{ℕ, ◌+◌, ◌*◌, ◌-◌, ◌≤◌, ◌<◌, Bool, true, false, ◌||◌, cond, List, get_or, set, take, replicate, eqb, ltb, leb, Option, Some, None}
use Rattle.query.specs.Nodes.{record_word, equality_word, not_word, join_word}
use Rattle.query.specs.Reading.{max_nodes, max_constants}
use Rattle.rules.specs.declared.kept.Head.{Head as HeadWithin}
use Rattle.rules.specs.declared.kept.Body.{Body as BodyWithin}
use Rattle.rules.specs.Meaning.{place_in, max_terms, max_number}

-- ---- numbers

-- The first number past all limits stands for all of those.
abbrev pub past : ℕ
past = 4294967296

abbrev pub capped : ℕ → ℕ
capped n = cond (ltb past n) past n

-- A number with one digit more.
abbrev pub capped_more : ℕ → ℕ → ℕ
capped_more n d = capped (n * 10 + d)

-- ---- the head

-- The head's variables, the least number that the next one can have, and whether a limit is passed.
pub record Head : Type 0 where
  pub variables : List ℕ
  pub count : ℕ
  pub least : ℕ
  pub over : Bool

abbrev pub head_of : List ℕ → ℕ → ℕ → Bool → Head
head_of xs n least o = record { variables = xs; count = n; least = least; over = o }

-- No variable has been read.
abbrev pub empty_head : Head
empty_head = head_of (replicate max_terms 0) 0 0 false

abbrev pub put_column : Head → ℕ → Head
put_column h x =
    cond
    (ltb x h.least || ltb max_number x || leb max_terms h.count)
    (head_of h.variables h.count h.least true)
    (head_of (set h.variables h.count x) (h.count + 1) (x + 1) h.over)

-- What is kept of a head: nothing past a limit.
abbrev pub kept_head : Head → Option Head
kept_head h = cond h.over None (Some h)

-- The head that the code has.
abbrev pub head_from : HeadWithin → Head
head_from h = head_of h.variables h.count h.least false

abbrev pub the_head : Option HeadWithin → Option Head
the_head None = None
the_head (Some h) = Some (head_from h)

-- ---- the goals

-- Of the goal being read: whether a not stands before it, whether an X stands before the number, its relation or the variable before its =, and the 5 bits of each
-- term. Of all goals: which variables they have, how many constants and nodes, and whether a limit is passed.
pub record Body : Type 0 where
  pub denied : Bool
  pub named : Bool
  pub subject : ℕ
  pub terms : List ℕ
  pub count : ℕ
  pub seen : List Bool
  pub constants : ℕ
  pub nodes : ℕ
  pub over : Bool

abbrev pub body_of : Bool → Bool → ℕ → List ℕ → ℕ → List Bool → ℕ → ℕ → Bool → Body
body_of d v s ts n seen cs ns o =
    record { denied = d; named = v; subject = s; terms = ts; count = n; seen = seen; constants = cs; nodes = ns; over = o }

-- No goal has been read.
abbrev pub empty_body : Body
empty_body = body_of false false 0 (replicate max_terms 0) 0 (replicate 16 false) 0 0 false

-- Goals past a limit.
abbrev pub overrun : Body → Body
overrun b = body_of b.denied b.named b.subject b.terms b.count b.seen b.constants b.nodes true

-- What is kept of goals: nothing past a limit.
abbrev pub kept_body : Body → Option Body
kept_body b = cond b.over None (Some b)

-- The goals that the code has.
abbrev pub body_from : BodyWithin → Body
body_from b = body_of b.denied b.named b.subject b.terms b.count b.seen b.constants b.nodes false

abbrev pub the_body : Option BodyWithin → Option Body
the_body None = None
the_body (Some b) = Some (body_from b)

-- The same with what is lent beside them, constants or nodes. Past a limit these are of no rule.
abbrev pub within : {A : Type 0} → Body × A → Option (Body × A)
within g = cond g.0.over None (Some g)

abbrev pub beside : {A : Type 0} → Option BodyWithin → A → Option (Body × A)
beside None x = None
beside (Some b) x = Some (body_from b, x)

-- The bounds of goals, for the laws. The code's indices rest on the facts of `Body` in kept.rt, which have them too.
pub record Small (b : Body) : Type 0 where
  pub count_small : b.count ≤ max_terms
  pub terms_small : (i : ℕ) → get_or b.terms i 0 < 32
  pub constants_small : b.constants ≤ max_constants
  pub nodes_small : b.nodes ≤ max_nodes

-- Goals with one term more, which these 5 bits stand for.
abbrev pub with_term : Body → ℕ → List Bool → ℕ → Body
with_term b code seen cs =
    body_of b.denied b.named b.subject (set b.terms b.count code) (b.count + 1) seen cs b.nodes b.over

abbrev pub put_variable : Body → ℕ → Body
put_variable b x = cond (ltb max_number x) (overrun b) (with_term b x (set b.seen x true) b.constants)

-- A constant at this place, which is a new one at the end.
abbrev pub put_place : Body → ℕ → ℕ → List ℕ → Body × List ℕ
put_place b x p cs =
    cond
    (leb max_constants p)
    (overrun b, cs)
    (cond (eqb p b.constants) (with_term b (16 + p) b.seen (b.constants + 1), set cs p x) (with_term b (16 + p) b.seen b.constants, cs))

abbrev pub put_constant : Body → ℕ → List ℕ → Body × List ℕ
put_constant b x cs = cond (leb past x) (overrun b, cs) (put_place b x (place_in (take b.constants cs) x) cs)

-- Goals without an X before the number.
abbrev pub unnamed : Body → Body
unnamed b = body_of b.denied false b.subject b.terms b.count b.seen b.constants b.nodes b.over

abbrev pub put_term : Body → ℕ → List ℕ → Body × List ℕ
put_term b x cs = cond (leb max_terms b.count) (overrun b, cs) (cond b.named (put_variable (unnamed b) x, cs) (put_constant b x cs))

-- Nodes, and how many there are: one more than there is room for where one had none.
abbrev pub Nodes : Type 0
Nodes = ℕ × List ℕ

-- What the code has of their number: nothing where one had no room.
abbrev pub with_room : Nodes → Option ℕ × List ℕ
with_room a = (cond (ltb max_nodes a.0) None (Some a.0), a.1)

abbrev pub add_word : ℕ → ℕ → List ℕ → Nodes
add_word w n ns = cond (leb max_nodes n) (max_nodes + 1, ns) (n + 1, set ns n w)

-- A not over the last of n nodes, where the goal is denied.
abbrev pub deny_goal : Bool → ℕ → List ℕ → Nodes
deny_goal denied n ns = cond denied (add_word (not_word (n - 1)) n ns) (n, ns)

-- An and over the goals of the first m nodes and the last of n nodes, where there are goals before it.
abbrev pub join_goal : ℕ → ℕ → List ℕ → Nodes
join_goal m n ns = cond (eqb m 0) (n, ns) (add_word (join_word 4 (m - 1) (n - 1)) n ns)

-- What comes next, where there was room.
abbrev pub onward : Nodes → (ℕ → List ℕ → Nodes) → Nodes
onward a f = cond (ltb max_nodes a.0) a (f a.0 a.1)

abbrev pub append_goal : ℕ → Bool → ℕ → List ℕ → Nodes
append_goal w denied n ns = onward (add_word w n ns) (λ m ms. onward (deny_goal denied m ms) (join_goal n))

-- The next goal can be read.
abbrev pub fresh_goal : Body → ℕ → Body
fresh_goal b n = body_of false b.named 0 (replicate max_terms 0) 0 b.seen b.constants n b.over

abbrev pub settled : Body → ℕ → List ℕ → Body × List ℕ
settled b w ns =
    let a = append_goal w b.denied b.nodes ns in
    (cond (ltb max_nodes a.0) (overrun b) (fresh_goal b a.0), a.1)

abbrev pub put_relation : Body → List ℕ → Body × List ℕ
put_relation b ns =
    cond
    (ltb max_number b.subject)
    (overrun b, ns)
    (settled b (record_word b.subject b.count (get_or b.terms 0 0) (get_or b.terms 1 0) (get_or b.terms 2 0) (get_or b.terms 3 0)) ns)

-- The variable before the = is one of the goal's.
abbrev pub with_subject : Body → Body
with_subject b = body_of b.denied b.named b.subject b.terms b.count (set b.seen b.subject true) b.constants b.nodes b.over

abbrev pub put_equality : Body → List ℕ → Body × List ℕ
put_equality b ns =
    cond
    (ltb max_number b.subject)
    (overrun b, ns)
    (settled (with_subject b) (equality_word b.subject (get_or b.terms 0 0)) ns)
