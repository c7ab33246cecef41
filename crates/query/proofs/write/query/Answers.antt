-- `query::write::query` meets its contract: the header is written, then the constants, then the nodes.
use Rattle.std.proofs.Common.{ℕ, ◌+◌, ◌*◌, ◌/◌, ◌%◌, ◌≤◌, ◌≡◌, refl, List, ◌++◌, length, set, add-one, arith, rules, sym, ap, ◌∙◌, append_assoc, length-take-le}
use Rattle.calculus.specs.Sets.{union_of}
use Rattle.query.specs.declared.Query.{Query}
use Rattle.query.specs.Reading.{max_nodes, pool, nodes_in}
use Rattle.query.specs.Packing.{word_bytes, header_bytes, packed_bytes}
use Rattle.query.specs.Code.Writing.{overlay}
use Rattle.query.proofs.Theory.Code.Writing.Laws.{then-run, length-word-bytes}
use Rattle.query.proofs.write.query.Goals as goal

abbrev head_of : Query → List ℕ
head_of q = header_bytes q.node_count q.constant_count

head-written : (n k at : ℕ) (ys : List ℕ) → set (set ys at (16 + n / 8)) (at + 1) (n % 8 * 32 + k) ≡ overlay at (header_bytes n k) ys
head-written n k at ys = ap (λ i. set (set ys at (16 + n / 8)) i (n % 8 * 32 + k)) (add-one at)

abbrev with-pool : Query → List ℕ
with-pool q = head_of q ++ union_of word_bytes (pool q)

-- The counts are the lengths of what was taken.
all-parts : (q : Query) → q.node_count ≤ length q.nodes → q.constant_count ≤ length q.constants → with-pool q ++ union_of word_bytes (nodes_in q) ≡ packed_bytes (pool q) (nodes_in q)
all-parts q hn hk =
    append_assoc (head_of q) (union_of word_bytes (pool q)) (union_of word_bytes (nodes_in q))
    ∙ (λ i. header_bytes (sym (length-take-le q.node_count q.nodes hn) i) (sym (length-take-le q.constant_count q.constants hk) i) ++ (union_of word_bytes (pool q) ++ union_of word_bytes (nodes_in q)))

pub returns : goal.returns
returns c =
    let a = c.args in let q = a.q in let k = q.constant_count in let n = q.node_count in
    let long-constants : length q.constants ≡ 16 = search rules in
    let long-nodes : length q.nodes ≡ max_nodes = search rules in
    let hk : k ≤ length q.constants = omega (arith, c.requires.0.1, long-constants) in
    let hn : n ≤ length q.nodes = omega (arith, c.requires.0.0, long-nodes) in
    let written : c.words.new.out ≡ overlay a.at (with-pool q) a.out.now = c.words.ensures ∙ then-run a.at (head_of q) (union_of word_bytes (pool q)) a.out.now _ (a.at + 2) (head-written n k a.at a.out.now) refl in
    let l : a.at + length (with-pool q) ≡ a.at + 2 + 4 * k = omega (arith, length-word-bytes q.constants k hk) in
    c.words-2.ensures
    ∙ then-run a.at (with-pool q) (union_of word_bytes (nodes_in q)) a.out.now c.words.new.out (a.at + 2 + 4 * k) written l
    ∙ ap (λ bs. overlay a.at bs a.out.now) (all-parts q hn hk)
