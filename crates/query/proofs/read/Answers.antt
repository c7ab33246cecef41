-- `query::read` meets its contract. The header's answer, the nodes' and the number of columns decide in that order; what the header lets pass fits the lists.
use Prim.Native.Nat.{ℕ, ◌+◌, ◌*◌, ◌≤◌, ◌<◌}
use native.Mathlib.Omega.{arith}
use mathlib.Core.Path.{◌≡◌, refl, sym, ap, subst, ◌∙◌}
use mathlib.Core.List.{List, ◌++◌}
use lib.ListN.{length, take, drop, replicate}
use lib.Seq.{take_all, length-take-le}
use Rattle.std.proofs.lemmas.List.{length-replicate}
use Rattle.calculus.specs.Lists.{tabulate, padded}
use Rattle.calculus.proofs.Theory.Lists.Laws.{length-tabulate}
use Rattle.calculus.specs.Generators.{columns}
use Rattle.causes.specs.Causes.{Answer, Done, first_cause, refusal_of}
use Rattle.std.proofs.Common.{rules, Err}
use Rattle.query.specs.declared.Columns.{Columns}
use Rattle.query.specs.Reading.{Reading, reading_of, word_at, count_of_nodes, count_of_constants, constants_of, nodes_of, header_checks, tree_checks, columns_of, accepted, max_nodes}
use Rattle.query.specs.Decoding.{root}
use Rattle.query.specs.Code.Free.{columns_found}
use Rattle.query.proofs.Theory.Reading.Laws.{header-done, refused-tree, refused-columns, reply-accepted, Fitting, fitting, nodes-read, nodes-padded, constants-padded}
use Rattle.query.proofs.read.Goals as goal

few_columns : (xs : List ℕ) → length xs ≤ 4 → columns_found xs ≡ columns_of xs
few_columns xs h = ap with_first (take_all 4 xs h)
  where
    with_first : List ℕ → Columns
    with_first ys = record { variables = padded 4 0 ys; count = length xs }

abbrev reply : List ℕ → ℕ → List ℕ → ℕ → Columns → Reading
reply cs k ns n xs = record { answer = Done; query = record { constants = cs; constant_count = k; nodes = ns; node_count = n }; columns = xs }

assembled : {bs : List ℕ} {n k : ℕ} → Fitting bs n k → (cs ns : List ℕ) (xs : Columns) → cs ≡ padded 16 0 (constants_of bs) → ns ≡ padded max_nodes 0 (nodes_of bs) → xs ≡ columns_of (columns (root (nodes_of bs))) → reply cs k ns n xs ≡ accepted (constants_of bs) (nodes_of bs)
assembled {bs} {n} {k} f cs ns xs e₁ e₂ e₃ =
    let lk : k ≡ length (constants_of bs) = f.constants ∙ sym (length-tabulate (λ i. word_at bs (2 + 4 * i)) (count_of_constants bs)) in
    let ln : n ≡ length (nodes_of bs) = f.nodes ∙ sym (length-tabulate (λ i. word_at bs (2 + 4 * count_of_constants bs + 4 * i)) (count_of_nodes bs)) in
    λ i. reply (e₁ i) (lk i) (e₂ i) (ln i) (e₃ i)

abbrev zeros : ℕ → List ℕ
zeros m = replicate m 0

-- A list of zeros whose first n places are filled.
filled : (f : ℕ → ℕ) (n m : ℕ) (part : List ℕ) → n ≤ m → part ≡ tabulate f (length (take n (zeros m))) → part ++ drop n (zeros m) ≡ tabulate f n ++ drop n (zeros m)
filled f n m part h e =
    let l : n ≤ length (zeros m) = omega (arith, length-replicate {A = ℕ} m 0) in
    ap (λ p. p ++ drop n (zeros m)) (e ∙ ap (tabulate f) (length-take-le n (zeros m) l))

-- The header is passed, and the counts and the nodes are read.
module _ (ws bs : List ℕ) (n k : ℕ) (part : List ℕ) (passed : Done ≡ first_cause (header_checks ws bs)) (en : n ≡ count_of_nodes bs) (ek : k ≡ count_of_constants bs) (e : part ≡ tabulate (λ i. word_at bs (2 + 4 * k + 4 * i)) (length (take n (zeros max_nodes)))) where
  fits : Fitting bs n k
  fits = fitting (header-done ws bs Done passed refl) n k en ek

  abbrev out : List ℕ
  out = part ++ drop n (zeros max_nodes)

  nodes-now : out ≡ tabulate (λ i. word_at bs (2 + 4 * k + 4 * i)) n ++ drop n (zeros max_nodes)
  nodes-now = filled (λ i. word_at bs (2 + 4 * k + 4 * i)) n max_nodes part fits.few_nodes e

  -- The answer on the nodes as they are read is that on the packed ones.
  judged : (a : Answer) → a ≡ first_cause (tree_checks ws k (take n out)) → a ≡ first_cause (tree_checks ws (count_of_constants bs) (nodes_of bs))
  judged a g =
      g
      ∙ ap (λ (ns : List ℕ). first_cause (tree_checks ws k ns)) (nodes-read fits out (drop n (zeros max_nodes)) nodes-now)
      ∙ ap (λ (j : ℕ). first_cause (tree_checks ws j (nodes_of bs))) ek

  -- And so are the columns.
  found : (xs : Columns) → xs ≡ columns_found (columns (root (take n out))) → xs ≡ columns_found (columns (root (nodes_of bs)))
  found xs g = g ∙ ap (λ (ns : List ℕ). columns_found (columns (root ns))) (nodes-read fits out (drop n (zeros max_nodes)) nodes-now)

  number : (xs : Columns) → xs ≡ columns_found (columns (root (take n out))) → xs.count ≡ length (columns (root (nodes_of bs)))
  number xs g = ap (λ (ys : Columns). ys.count) (found xs g)

  -- The reply on a query that is accepted.
  made : (part₀ : List ℕ) → part₀ ≡ tabulate (λ i. word_at bs (2 + 4 * i)) (length (take k (zeros 16))) → (xs : Columns) → xs ≡ columns_found (columns (root (take n out))) → xs.count ≤ 4
      → reply (part₀ ++ drop k (zeros 16)) k out n xs ≡ accepted (constants_of bs) (nodes_of bs)
  made part₀ e₀ xs g h =
      let few : length (columns (root (nodes_of bs))) ≤ 4 = subst (λ (m : ℕ). m ≤ 4) (number xs g) h in
      assembled fits (part₀ ++ drop k (zeros 16)) out xs
      (constants-padded fits (part₀ ++ drop k (zeros 16)) (filled (λ i. word_at bs (2 + 4 * i)) k 16 part₀ fits.few_constants e₀))
      (nodes-padded fits out nodes-now)
      (found xs g ∙ few_columns (columns (root (nodes_of bs))) few)

pub returns-in_err-tree : goal.returns-in_err-tree
returns-in_err-tree c =
    let ws = c.args.widths in let bs = c.args.bytes.now in let p = c.in_ok-header.ensures in let r = c.in_err-tree.field-0.0 in
    let n = c.node_count-n in let k = c.constant_count-k in let out = c.words-2 in
    let e : c.from_residual-in_err-tree.result ≡ Err r = search rules in
    let j = judged ws bs n.result k.result out.new.out p n.ensures k.ensures out.ensures (refusal_of r) c.in_err-tree.ensures in
    ap reading_of e ∙ refused-tree ws bs p (refusal_of r) j refl

pub returns-then-columns-gt-COLUMNS : goal.returns-then-columns-gt-COLUMNS
returns-then-columns-gt-COLUMNS c =
    let ws = c.args.widths in let bs = c.args.bytes.now in let p = c.in_ok-header.ensures in let xs = c.columns-columns in
    let n = c.node_count-n in let k = c.constant_count-k in let out = c.words-2 in
    refused-columns ws bs p
    (judged ws bs n.result k.result out.new.out p n.ensures k.ensures out.ensures Done c.in_ok-tree.ensures)
    (subst (λ (m : ℕ). 4 < m) (number ws bs n.result k.result out.new.out p n.ensures k.ensures out.ensures xs.result xs.ensures) (omega arith))

pub returns : goal.returns
returns c =
    let ws = c.args.widths in let bs = c.args.bytes.now in let p = c.in_ok-header.ensures in let xs = c.columns-columns in
    let n = c.node_count-n in let k = c.constant_count-k in let out = c.words-2 in
    let few = subst (λ (m : ℕ). m ≤ 4) (number ws bs n.result k.result out.new.out p n.ensures k.ensures out.ensures xs.result xs.ensures) (omega arith) in
    made ws bs n.result k.result out.new.out p n.ensures k.ensures out.ensures c.words.new.out c.words.ensures xs.result xs.ensures (omega arith)
    ∙ reply-accepted ws bs p (judged ws bs n.result k.result out.new.out p n.ensures k.ensures out.ensures Done c.in_ok-tree.ensures) few
