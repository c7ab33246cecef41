-- A rule within its limits can be packed, and reading what was packed gives its query and the variables of its head.
use Rattle.std.specs.Prelude.{ℕ, ◌+◌, ◌*◌, ◌-◌, ◌≤◌, ◌<◌, ◌^◌, ◌≡◌, refl, ◌⊎◌, false, List, ◌∷◌, map, length, replicate, T}
use Rattle.std.proofs.Common.{zero-le, suc-le-suc, arith, ap, ◌∙◌, length-append}
use Rattle.std.proofs.Math.Path.{subst⁻¹}
use Rattle.std.proofs.lemmas.List.{length-map}
use Rattle.std.proofs.Math.Seq.{take-append_seam}
use Rattle.calculus.specs.Sets.{In, here, there, ◌⊆◌}
use Rattle.calculus.proofs.Theory.Sets.Laws.{from-map, in-union}
use Rattle.calculus.specs.Formula.{rel, size, Term as FmlaTerm}
use Rattle.calculus.specs.Satisfaction.{Pool}
use Rattle.calculus.specs.Generators.{columns}
use Rattle.causes.specs.Causes.{number, widths_fit, Done}
use Rattle.query.specs.Reading.{max_nodes, max_constants, max_columns, query_of, columns_of, read_of, formula, pool as pool-in}
use Rattle.query.specs.Decoding.{root}
use Rattle.query.specs.Packing.{words, TermFits, var_fits, con_fits, Fits, rel_fits, eq_fits, neg_fits, conj_fits, exists_fits, Packable}
use Rattle.query.proofs.Theory.Packing.Bytes.{length-bytes}
use Rattle.query.proofs.Theory.Packing.Laws.{Room, length-words, read-pack, root-packed, packed-causes, room_small}
use Rattle.rules.specs.Grammar.{several, all, Term, variable, value, Goal, holds, fails, equal, Rule}
use Rattle.rules.specs.Meaning.{head, goals, goal_terms, goal_relations, term_variables, term_values, goal_variables, goal_values, pool_of, term_in, goal_formula, bound, formula_of, max_terms, max_number, overstepped, goal_allowed, Allowed}
use Rattle.rules.proofs.Theory.Meaning.Laws.{rule-induction}
use Rattle.rules.proofs.Theory.Meaning.Constants.{in-pool_of, from-pool_of, place-below}
use Rattle.rules.proofs.Theory.Meaning.Limits.{Within, within}
use Rattle.rules.proofs.Theory.Meaning.Variables.{bound-members, rule-columns}
use Rattle.rules.specs.Reply.{bytes_of, max_bytes}

-- ---- the nodes have room for a rule's formula

-- A term of a small variable, or of a value of the pool, fits.
term_fits : (pool : Pool) (t : Term) → ((x : ℕ) → In x (term_variables t) → x ≤ max_number) → term_values t ⊆ pool → TermFits (length pool) (term_in pool t)
term_fits pool (variable x) h k = var_fits (suc-le-suc (h x (here refl)))
term_fits pool (value v) h k = con_fits (place-below pool v (k v (here refl)))

module _ (R : Rule) (w : Within R) where
  abbrev pool : Pool
  pool = pool_of (goals R)

  goal-term-fits : (g : Goal) → In g (goals R) → (t : Term) → In t (goal_terms g) → TermFits (length pool) (term_in pool t)
  goal-term-fits g i t j =
      term_fits pool t (λ x l. w.variables_fit x (in-union goal_variables i (in-union term_variables j l)))
      (λ v l. in-pool_of (goals R) v (in-union goal_values i (in-union term_values j l)))

  relation-room : (r : ℕ) (ts : List Term) → r ≤ max_number → length ts ≤ max_terms → ((t : Term) → In t ts → TermFits (length pool) (term_in pool t)) → Room (length pool) (rel r (map (term_in pool) ts))
  relation-room r ts h l f = (suc-le-suc h, subst⁻¹ (λ n. n ≤ max_terms) (length-map ts (term_in pool)) l, each)
    where
      each : (u : FmlaTerm) → In u (map (term_in pool) ts) → TermFits (length pool) u
      each u i = let s = from-map (term_in pool) ts i in subst⁻¹ (TermFits (length pool)) s.2 (f s.0 s.1)

  goal-room : (g : Goal) → In g (goals R) → Room (length pool) (goal_formula pool g)
  goal-room (holds r ts) i = relation-room r (all ts) (w.relations_fit r (in-union goal_relations i (here refl))) (w.few_terms (holds r ts) i) (goal-term-fits (holds r ts) i)
  goal-room (fails r ts) i = relation-room r (all ts) (w.relations_fit r (in-union goal_relations i (here refl))) (w.few_terms (fails r ts) i) (goal-term-fits (fails r ts) i)
  goal-room (equal x t) i = (suc-le-suc (w.variables_fit x (in-union goal_variables i (here refl))), goal-term-fits (equal x t) i t (there (here refl)))

  bound-fits : (x : ℕ) → In x (bound R) → x < 16
  bound-fits x i = suc-le-suc (w.variables_fit x ((bound-members R x).0 i).0)

  -- The nodes have room for the formula of a rule within its limits, whatever the widths.
  pub rule-room : Room (length pool) (formula_of R)
  rule-room = rule-induction (Room (length pool)) R (λ φ ψ f g. (f, g)) (λ x φ i f. (bound-fits x i, f)) goal-room

  -- Where the widths allow a goal, its formula fits.
  goal-fits : (ws : List ℕ) (g : Goal) → In g (goals R) → goal_allowed ws g → Fits ws (length pool) (goal_formula pool g)
  goal-fits ws (holds r (several t ts)) i a = let (h, l, f) = goal-room (holds r (several t ts)) i in rel_fits h (suc-le-suc zero-le) (length-map (t ∷ ts) (term_in pool) ∙ a) f
  goal-fits ws (fails r (several t ts)) i a = let (h, l, f) = goal-room (fails r (several t ts)) i in neg_fits (rel_fits h (suc-le-suc zero-le) (length-map (t ∷ ts) (term_in pool) ∙ a) f)
  goal-fits ws (equal x t) i a = let (h, f) = goal-room (equal x t) i in eq_fits h f

  rule_fits : (ws : List ℕ) → Allowed ws R → Fits ws (length pool) (formula_of R)
  rule_fits ws a = rule-induction (Fits ws (length pool)) R (λ φ ψ f g. conj_fits f g) (λ x φ i f. exists_fits (bound-fits x i) f) (λ g i. goal-fits ws g i (a g i))

  rule-constants : (v : ℕ) → In v pool → v < 2 ^ 32
  rule-constants v i = omega (arith, w.values_fit v (from-pool_of (goals R) v i))

-- ---- packing a rule

few-rule-columns : (R : Rule) → overstepped R ≡ false → length (columns (formula_of R)) ≤ max_columns
few-rule-columns R e = subst⁻¹ (λ xs. length xs ≤ max_columns) (rule-columns R e) (within R e).few_columns

-- A rule within its limits can be packed for widths that allow it.
pub rule-packable : (R : Rule) → overstepped R ≡ false → (ws : List ℕ) → Allowed ws R → Packable ws (pool_of (goals R)) (formula_of R)
rule-packable R e ws a =
    let w = within R e in
    record {
      fits = rule_fits R w ws a;
      few_nodes = w.few_nodes;
      few_constants = w.few_constants;
      constants_fit = rule-constants R w;
      few_columns = few-rule-columns R e;
    }

-- The query of a rule, by value, has the rule's constants.
pub query-constants : (R : Rule) → pool-in (query_of (pool_of (goals R)) (words (formula_of R) 0)) ≡ pool_of (goals R)
query-constants R = take-append_seam (pool_of (goals R)) (replicate (max_constants - length (pool_of (goals R))) 0)

-- Its nodes stand for the rule's formula, whatever the widths.
pub query-formula : (R : Rule) → overstepped R ≡ false → formula (query_of (pool_of (goals R)) (words (formula_of R) 0)) ≡ formula_of R
query-formula R e =
    let w = within R e in
    ap root (take-append_seam (words (formula_of R) 0) (replicate (max_nodes - length (words (formula_of R) 0)) 0))
    ∙ root-packed (pool_of (goals R)) (formula_of R) (rule-room R w) w.few_nodes w.few_constants

-- Reading its bytes accepts it, with its query and with the variables of its head as columns.
pub rule-accepted : (R : Rule) → overstepped R ≡ false → (ws : List ℕ) → T (widths_fit ws) → Allowed ws R
    → read_of ws (bytes_of R) ≡ record { answer = Done; query = query_of (pool_of (goals R)) (words (formula_of R) 0); columns = columns_of (head R) }
rule-accepted R e ws t a =
    let r = read-pack ws (pool_of (goals R)) (formula_of R) t (rule-packable R e ws a) in
    r.0 ∙ (λ i. record { answer = Done; query = query_of (pool_of (goals R)) (words (formula_of R) 0); columns = columns_of ((ap columns r.1 ∙ rule-columns R e) i) })

-- Reading its bytes for any widths accepts it, or refuses with 1 or 9.
pub rule-causes : (R : Rule) → overstepped R ≡ false → (ws : List ℕ) → let a = (read_of ws (bytes_of R)).answer in (number a ≡ 0) ⊎ (number a ≡ 1) ⊎ (number a ≡ 9)
rule-causes R e ws = let w = within R e in packed-causes (pool_of (goals R)) (formula_of R) (rule-room R w) w.few_nodes w.few_constants (few-rule-columns R e) ws

-- ---- its bytes

-- Its bytes are bytes.
pub bytes_small : (R : Rule) → overstepped R ≡ false → (b : ℕ) → In b (bytes_of R) → b < 256
bytes_small R e = let w = within R e in room_small (pool_of (goals R)) (formula_of R) (rule-room R w) w.few_nodes w.few_constants (rule-constants R w)

-- Two bytes for the header, and four for each constant and each node.
pub length-bytes-of : (R : Rule) → length (bytes_of R) ≡ 2 + 4 * length (pool_of (goals R)) + 4 * size (formula_of R)
length-bytes-of R =
    simp length-append (omega (arith, length-bytes (pool_of (goals R)), length-bytes (words (formula_of R) 0), length-words (formula_of R) 0))

-- A rule within its limits has room in the bytes that are handed back.
pub bytes-short : (R : Rule) → overstepped R ≡ false → length (bytes_of R) ≤ max_bytes
bytes-short R e = let w = within R e in omega (arith, length-bytes-of R, w.few_nodes, w.few_constants)
