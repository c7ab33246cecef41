-- What the verdict's reply says: its form is an accepted query of the propagated formula, the bits of its numbers are the generators and the reports of the
-- calculus, and safe-range is 000's, widened as documents 01 and 02 say.
use Rattle.std.specs.Prelude.{ℕ, zero, suc, ◌-◌, ◌≤◌, ◌<◌, ◌^◌, ◌≡◌, refl, ◌↔◌, Bool, true, ◌&&◌, List, [], ◌∷◌, map, length, get_or, replicate, T, eqb}
use Rattle.std.proofs.Common.{arith, sym, ap, ◌∙◌, subst}
use Rattle.std.proofs.Math.Path.{subst⁻¹}
use Rattle.std.proofs.lemmas.Simd.{map-map}
use Rattle.std.proofs.lemmas.List.{length-map}
use Rattle.std.proofs.Math.Seq.{take-append_seam}
use Rattle.calculus.specs.Sets.{In, member, union_of}
use Rattle.calculus.proofs.Theory.Sets.Laws.{in-nil, reflects-member}
use Rattle.calculus.specs.Lists.{padded}
use Rattle.calculus.proofs.Theory.Lists.Laws.{getD-padded}
use Rattle.calculus.specs.Reflects.{Reflects}
use Rattle.calculus.proofs.Theory.Reflects.Laws.{reflects-true, reflected, reflects-map}
use Rattle.calculus.specs.Formula.{Fmla, fv, size, node, nodes}
use Rattle.calculus.proofs.Theory.Formula.Laws.{node-below}
use Rattle.calculus.specs.Propagation.{cp}
use Rattle.calculus.specs.Generation.{Ap}
use Rattle.calculus.specs.Ranging.{Ranged}
use Rattle.calculus.specs.Generators.{Leaves, columns, plain, leaves, unranged_node, verdict}
use Rattle.calculus.specs.Sources.{LeavesRight, generated_by, not_generated, AtNode}
use Rattle.calculus.proofs.Theory.Generators.Laws.{plain_right, leaf-atom}
use Rattle.calculus.specs.SafeRange.{SafeRange, Unranged, SafeBefore}
use Rattle.calculus.proofs.Theory.SafeRange.Laws.{safe-before}
use Rattle.calculus.proofs.Theory.SafeRange.Result.{columns-members, ungenerated-means, unranged-means, safe-reflects}
use Rattle.calculus.proofs.Theory.Propagation.Laws.{size-cp}
use Rattle.causes.specs.Causes.{Done, Refused}
use Rattle.query.specs.declared.Query.{Query}
use Rattle.query.specs.declared.Columns.{Columns}
use Rattle.query.specs.Reading.{Reading, max_nodes, max_columns, read_of, nodes_in, pool, formula, columns_of, variables_in, max_constants, constants_of, nodes_of}
use Rattle.query.specs.Decoding.{formula_at}
use Rattle.query.proofs.Theory.Code.Free.Laws.{fv-small}
use Rattle.query.proofs.Theory.Packing.Laws.{length-words}
use Rattle.query.specs.Accepted.{Accepted}
use Rattle.query.proofs.Theory.Accepted.Laws.{read-refused, read_done, read-size, reading-accepted, pool_of}
use Rattle.verdict.specs.Verdict.{Verdict, refusal_with, refusal, judged, verdict_reply, verdict_of}
use Rattle.verdict.specs.Bits.{mask, node_mask, has}
use Rattle.verdict.proofs.Theory.Bits.Laws.{has-bits, mask-empty}
use Rattle.verdict.specs.Form.{form_of}
use Rattle.verdict.proofs.Theory.Form.Laws.{form-accepted, form_count, form-formula, form_pool, form_is, form_in, form-root}
use Rattle.verdict.specs.Code.Generating.{generated_bits, plain_bits, numbers_of, missing_from, unranged_in}
use Rattle.verdict.proofs.Theory.Code.Generating.Reports.{numbers-right, unranged-right, missing-right}

-- ---- the reply, by the reader's answer

module _ (ws bs : List ℕ) where
  pub verdict-refused : (n p : ℕ) → (read_of ws bs).answer ≡ Refused n p → verdict_of ws bs ≡ refusal n p
  verdict-refused n p e = ap (λ a. verdict_reply a (read_of ws bs).query) e

  -- A refusal of the verdict comes with what the reader hands back.
  pub refused-with : (r : Reading) (n p : ℕ) → r ≡ read_of ws bs → r.answer ≡ Refused n p → refusal_with n p r.query r.columns ≡ verdict_of ws bs
  refused-with r n p d e =
      let f : (read_of ws bs).answer ≡ Refused n p = ap (λ v. v.answer) (sym d) ∙ e in
      ap (λ v. refusal_with n p v.query v.columns) (d ∙ read-refused ws bs n p f) ∙ sym (verdict-refused n p f)

  pub verdict-done : (read_of ws bs).answer ≡ Done → verdict_of ws bs ≡ judged (read_of ws bs).query
  verdict-done e = ap (λ a. verdict_reply a (read_of ws bs).query) e

-- What a bit of a set says, where membership means P.
bit-means : {P : Type 0} (k : ℕ) (xs : List ℕ) (n : ℕ) → n < k → In n xs ↔ P → Reflects P (has k (mask k xs) n)
bit-means {P} k xs n h e = subst⁻¹ (Reflects P) (has-bits (λ m. member m xs) k n h) (reflects-map e.0 e.1 (reflects-member n xs))

-- ---- the number of a column

getD-mapped : {A : Type 0} (f : ℕ → A) (d : A) (xs : List ℕ) (c : ℕ) → c < length xs → get_or (map f xs) c d ≡ f (get_or xs c 0)
getD-mapped f d [] c h = absurd (omega arith)
getD-mapped f d (x ∷ xs) zero h = refl
getD-mapped f d (x ∷ xs) (suc c) h = getD-mapped f d xs c (omega arith)

-- A leaf of an answer is an atom of the formula.
leaf-of : {x n : ℕ} {φ : Fmla} {a : Leaves} → LeavesRight x φ n a → (p : ℕ) → In p (leaves a) → AtNode Ap φ n p
leaf-of (generated_by G g) p i = leaf-atom g p i
leaf-of (not_generated g) p i = absurd (in-nil i)

number_at : (φ : Fmla) (c : ℕ) → c < length (columns φ) → get_or (padded max_columns 0 (map node_mask (verdict φ).generators)) c 0 ≡ node_mask (leaves (plain (cp φ) 0 (get_or (columns φ) c 0)))
number_at φ c h =
    let gs : List ℕ = map node_mask (verdict φ).generators in
    let e : gs ≡ map (λ x. node_mask (leaves (plain (cp φ) 0 x))) (columns φ) = map-map node_mask (λ x. leaves (plain (cp φ) 0 x)) (columns φ) in
    let l : length gs ≡ length (columns φ) = ap length e ∙ length-map (columns φ) (λ x. node_mask (leaves (plain (cp φ) 0 x))) in
    getD-padded max_columns 0 gs c (omega arith)
    ∙ ap (λ m. get_or m c 0) e
    ∙ getD-mapped (λ x. node_mask (leaves (plain (cp φ) 0 x))) 0 (columns φ) c h

-- ---- the numbers of nodes and variables are in range

-- The free variables of a query are below 16.
pub column-small : (q : Query) (x : ℕ) → In x (columns (formula q)) → x < 16
column-small q x i = fv-small (nodes_in q) (length (nodes_in q) - 1) x ((columns-members (formula q) x).0 i)

ungenerated-small : (q : Query) (x : ℕ) → In x (verdict (formula q)).ungenerated → x < 16
ungenerated-small q x i = fv-small (nodes_in q) (length (nodes_in q) - 1) x ((ungenerated-means (formula q) x).0 i).0

-- A query's form has as many nodes as the propagated formula.
form-size : (q : Query) → size (cp (formula q)) ≡ (form_of q).node_count
form-size q = sym (length-words (cp (formula q)) 0)

-- Safe-range exactly when both reports are zero, where the form has at most `max_nodes` nodes.
safe-zero : (q : Query) → size (cp (formula q)) ≤ max_nodes → (judged q).safe ≡ (eqb (judged q).ungenerated 0 && eqb (judged q).unranged 0)
safe-zero q few = λ i. sym (mask-empty 16 (verdict (formula q)).ungenerated (ungenerated-small q)) i && sym (mask-empty max_nodes (verdict (formula q)).unranged unranged-small) i
  where
    unranged-small : (k : ℕ) → In k (verdict (formula q)).unranged → k < max_nodes
    unranged-small k i = let s = (unranged-means (formula q) k).0 i in omega (arith, node-below (cp (formula q)) s.0 0 k s.1, few)

module _ (ws : List ℕ) (q : Query) (a : Accepted ws q) where
  pub judged-safe : (judged q).safe ≡ (eqb (judged q).ungenerated 0 && eqb (judged q).unranged 0)
  judged-safe = safe-zero q (omega (arith, form-size q, (form-accepted ws q a).few_nodes))

  -- ---- the numbers, bit by bit

  -- The generators of a column: the leaf nodes of the generation order in the form.
  pub generator-bit : (c n : ℕ) → c < length (columns (formula q)) → n < max_nodes → has max_nodes (get_or (judged q).generators c 0) n ≡ member n (leaves (plain (cp (formula q)) 0 (get_or (columns (formula q)) c 0)))
  generator-bit c n h l = ap (λ m. has max_nodes m n) (number_at (formula q) c h) ∙ has-bits (λ k. member k (leaves (plain (cp (formula q)) 0 (get_or (columns (formula q)) c 0)))) max_nodes n l

  -- The generators of a column are the leaves beside a set that the rules allow, and none where they allow none.
  pub generator-right : (c : ℕ) → c < length (columns (formula q)) → (a : Leaves) × LeavesRight (get_or (columns (formula q)) c 0) (cp (formula q)) 0 a × (get_or (judged q).generators c 0 ≡ node_mask (leaves a))
  generator-right c h = let x : ℕ = get_or (columns (formula q)) c 0 in (plain (cp (formula q)) 0 x, plain_right (cp (formula q)) 0 x, number_at (formula q) c h)

  -- Each of them is a record of the form, or an equality of a variable with a constant.
  pub generator-atom : (c n : ℕ) → c < length (columns (formula q)) → n < max_nodes → has max_nodes (get_or (judged q).generators c 0) n ≡ true → AtNode Ap (cp (formula q)) 0 n
  generator-atom c n h l e =
      let x : ℕ = get_or (columns (formula q)) c 0 in
      leaf-of (plain_right (cp (formula q)) 0 x) n (reflected (reflects-member n (leaves (plain (cp (formula q)) 0 x))) (subst⁻¹ T (sym (generator-bit c n h l) ∙ e) tt))

  -- The free variables as read that aren't generated in the form.
  pub ungenerated-bit : (x : ℕ) → x < 16 → Reflects (In x (fv (formula q)) × ¬ Ranged x (cp (formula q))) (has 16 (judged q).ungenerated x)
  ungenerated-bit x h = bit-means 16 (verdict (formula q)).ungenerated x h (ungenerated-means (formula q) x)

  -- The exists nodes of the form whose variable isn't generated in their child.
  pub unranged-bit : (k : ℕ) → k < max_nodes → Reflects ((χ : Fmla) × In (node k χ) (nodes (cp (formula q)) 0) × Unranged χ) (has max_nodes (judged q).unranged k)
  unranged-bit k h = bit-means max_nodes (verdict (formula q)).unranged k h (unranged-means (formula q) k)

  -- ---- what the parts of the code find is the verdict

  form-spans : size (formula_at (form_of q).nodes ((form_of q).node_count - 1)) ≡ (form_of q).node_count
  form-spans = ap size (form-root ws q a) ∙ form-size q

  pub variables-read : variables_in (columns_of (columns (formula q))) ≡ columns (formula q)
  variables-read = take-append_seam (columns (formula q)) (replicate (max_columns - length (columns (formula q))) 0)

  numbers-found : numbers_of (form_of q).nodes (form_of q).node_count (columns (formula q)) ≡ (judged q).generators
  numbers-found =
      numbers-right (form_of q).nodes (form_of q).node_count (columns (formula q)) (form_in (form_is ws q a)) form-spans
      ∙ ap (λ φ. padded max_columns 0 (map node_mask (map (λ x. leaves (plain φ 0 x)) (columns (formula q))))) (form-root ws q a)

  missing-found : missing_from (plain_bits (form_of q).nodes ((form_of q).node_count - 1)) (columns (formula q)) ≡ (judged q).ungenerated
  missing-found =
      ap (λ φ. missing_from (generated_bits (plain φ 0)) (columns (formula q))) (form-root ws q a)
      ∙ missing-right (cp (formula q)) (columns (formula q)) (column-small q)

  unranged-found : unranged_in (form_of q).nodes (form_of q).node_count ≡ (judged q).unranged
  unranged-found =
      unranged-right (form_of q).nodes (form_of q).node_count (form_in (form_is ws q a)) form-spans
      ∙ ap (λ φ. node_mask (union_of unranged_node (nodes φ 0))) (form-root ws q a)

-- A reply of these parts.
abbrev pub reply : Query → Columns → List ℕ → ℕ → ℕ → Bool → Verdict
reply f cs gs u w b = record { answer = Done; form = f; columns = cs; generators = gs; ungenerated = u; unranged = w; safe = b }

-- From the form, the columns and what was found of them.
pub assembled : (ws : List ℕ) (q : Query) → Accepted ws q → (f : Query) (cs : Columns) (gs : List ℕ) (u w : ℕ) (b : Bool) → f ≡ form_of q → cs ≡ columns_of (columns (formula q))
    → gs ≡ numbers_of f.nodes f.node_count (variables_in cs) → u ≡ missing_from (plain_bits f.nodes (f.node_count - 1)) (variables_in cs) → w ≡ unranged_in f.nodes f.node_count → b ≡ (eqb u 0 && eqb w 0)
    → reply f cs gs u w b ≡ judged q
assembled ws q a f cs gs u w b e d eg eu ew eb =
    let vs : variables_in cs ≡ columns (formula q) = ap variables_in d ∙ variables-read ws q a in
    let g : gs ≡ (judged q).generators = eg ∙ (λ i. numbers_of (e i).nodes (e i).node_count (vs i)) ∙ numbers-found ws q a in
    let m : u ≡ (judged q).ungenerated = eu ∙ (λ i. missing_from (plain_bits (e i).nodes ((e i).node_count - 1)) (vs i)) ∙ missing-found ws q a in
    let r : w ≡ (judged q).unranged = ew ∙ (λ i. unranged_in (e i).nodes (e i).node_count) ∙ unranged-found ws q a in
    let s : b ≡ (judged q).safe = eb ∙ (λ i. eqb (m i) 0 && eqb (r i) 0) ∙ sym (judged-safe ws q a) in
    λ i. reply (e i) (d i) (g i) (m i) (r i) (s i)

-- ---- of the bytes

-- The reply to accepted bytes.
module _ (ws bs : List ℕ) (done : (read_of ws bs).answer ≡ Done) where
  -- The verdict is safe-range of 000, widened as documents 01 and 02 say, and it is that both reports are zero.
  pub verdict-safe : Reflects (SafeRange (formula (read_of ws bs).query)) (verdict_of ws bs).safe
  verdict-safe = subst⁻¹ (λ v. Reflects (SafeRange (formula (read_of ws bs).query)) v.safe) (verdict-done ws bs done) (safe-reflects (formula (read_of ws bs).query))

  -- A query that was safe-range before document 02 is judged so.
  pub verdict-safe-before : SafeBefore (formula (read_of ws bs).query) → (verdict_of ws bs).safe ≡ true
  verdict-safe-before s = reflects-true verdict-safe (safe-before (formula (read_of ws bs).query) s)

  pub verdict-safe-zero : (verdict_of ws bs).safe ≡ (eqb (verdict_of ws bs).ungenerated 0 && eqb (verdict_of ws bs).unranged 0)
  verdict-safe-zero =
      let q : Query = (read_of ws bs).query in
      subst⁻¹ (λ v. v.safe ≡ (eqb v.ungenerated 0 && eqb v.unranged 0)) (verdict-done ws bs done) (safe-zero q (omega (arith, size-cp (formula q), read-size ws bs done)))

  -- The form has the constants of the query as read.
  pub form-constants : (form_of (read_of ws bs).query).constants ≡ (read_of ws bs).query.constants
  form-constants =
      let r = read_done ws bs done in
      ap (λ x. padded max_constants 0 (pool x.query)) r ∙ ap (padded max_constants 0) (pool_of (constants_of bs) (nodes_of bs)) ∙ ap (λ x. x.query.constants) (sym r)

  -- The constants in the reply are 32-bit numbers, as in every reply of a call: an array of them is.
  module _ (small : (i : ℕ) → get_or (verdict_of ws bs).form.constants i 0 < 2 ^ 32) where
    query-accepted : Accepted ws (read_of ws bs).query
    query-accepted = reading-accepted ws bs (subst (λ cs. (i : ℕ) → get_or cs i 0 < 2 ^ 32) (ap (λ v. v.form.constants) (verdict-done ws bs done) ∙ form-constants) small) done

    -- The form is itself an accepted query for the same widths, with the same constants and at most as many nodes, and stands for the propagated formula.
    pub verdict-form : Accepted ws (verdict_of ws bs).form × (formula (verdict_of ws bs).form ≡ cp (formula (read_of ws bs).query)) × (pool (verdict_of ws bs).form ≡ pool (read_of ws bs).query) × ((verdict_of ws bs).form.node_count ≤ (read_of ws bs).query.node_count)
    verdict-form =
        let q = (read_of ws bs).query in
        subst⁻¹
        (λ v. Accepted ws v.form × (formula v.form ≡ cp (formula q)) × (pool v.form ≡ pool q) × (v.form.node_count ≤ q.node_count))
        (verdict-done ws bs done)
        (form-accepted ws q query-accepted, form-formula ws q query-accepted, form_pool ws q query-accepted, form_count ws q query-accepted)
