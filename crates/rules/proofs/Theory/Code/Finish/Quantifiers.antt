-- The quantifiers that the code adds one by one, the highest variable first, are those of the rule's formula.
use Rattle.std.specs.Prelude.{ℕ, zero, suc, ◌+◌, ◌-◌, ◌≤◌, ◌<◌, ◌≡◌, refl, Bool, true, false, cond, List, [], ◌∷◌, ◌++◌, length, set, ltb}
use Rattle.std.proofs.Common.{zero-add, arith, sym, ap, subst, ◌∙◌, le-ltb}
use Rattle.std.proofs.lemmas.Bool.{lt-leb}
use Rattle.calculus.specs.Reflects.{Reflects, holds, fails}
use Rattle.calculus.proofs.Theory.Reflects.Laws.{reflects, reflected, reflects-leb}
use Rattle.calculus.specs.Sets.{In, select}
use Rattle.calculus.proofs.Theory.Sets.Laws.{in-select, from-select}
use Rattle.calculus.specs.Lists.{tabulate, padded}
use Rattle.calculus.proofs.Theory.Lists.Laws.{tabulate-next, from-tabulate, select-append, padded-put}
use Rattle.calculus.specs.Order.{Ascending}
use Rattle.calculus.proofs.Theory.Order.Laws.{ltb-order, sort-ascending, ascending-select, ascending-unique, reflects-ascending}
use Rattle.calculus.specs.Formula.{Fmla, exists, size}
use Rattle.query.specs.Nodes.{exists_word}
use Rattle.query.specs.Reading.{max_nodes}
use Rattle.query.specs.Packing.{words}
use Rattle.query.proofs.Theory.Packing.Laws.{length-words}
use Rattle.query.proofs.Theory.Code.Free.Laws.{in-tabulate}
use Rattle.rules.specs.Grammar.{Rule}
use Rattle.rules.specs.Meaning.{head, goals, variables_in, bound, quantified}
use Rattle.rules.proofs.Theory.Meaning.Variables.{bound-members}
use Rattle.rules.specs.Code.Draft.{Nodes, add_word, onward}
use Rattle.rules.proofs.Theory.Code.Draft.Laws.{onward-goes}
use Rattle.rules.specs.Code.Finish.{bound_down, bind_all}

-- ---- formulas

-- Each quantifier is a node.
pub size-quantified : (xs : List ℕ) (φ : Fmla) → size (quantified xs φ) ≡ size φ + length xs
size-quantified [] φ = omega arith
size-quantified (x ∷ xs) φ = let e = size-quantified xs φ in omega arith

quantified-append : (xs ys : List ℕ) (φ : Fmla) → quantified (xs ++ ys) φ ≡ quantified xs (quantified ys φ)
quantified-append [] ys φ = refl
quantified-append (x ∷ xs) ys φ = ap (exists x) (quantified-append xs ys φ)

-- Exists for each variable, the first innermost.
abbrev wrapped : List ℕ → Fmla → Fmla
wrapped [] φ = φ
wrapped (x ∷ xs) φ = wrapped xs (exists x φ)

size-wrapped : (xs : List ℕ) (φ : Fmla) → size (wrapped xs φ) ≡ size φ + length xs
size-wrapped [] φ = omega arith
size-wrapped (x ∷ xs) φ = let e = size-wrapped xs (exists x φ) in omega arith

-- The numbers below n that pass a test, the lowest first.
abbrev bound_up : (ℕ → Bool) → ℕ → List ℕ
bound_up p n = select p (tabulate (λ i. i) n)

bound_up-next : (p : ℕ → Bool) (n : ℕ) → bound_up p (suc n) ≡ bound_up p n ++ cond (p n) (n ∷ []) []
bound_up-next p n = ap (select p) (tabulate-next (λ i. i) n) ∙ select-append p (tabulate (λ i. i) n) (n ∷ [])

-- The highest first and innermost is the lowest first and outermost.
wrapped-down : (p : ℕ → Bool) (n : ℕ) (φ : Fmla) → wrapped (bound_down p n) φ ≡ quantified (bound_up p n) φ
wrapped-down p zero φ = refl
wrapped-down p (suc n) φ =
    go (p n) (wrapped-down p n)
    ∙ sym (ap (λ xs. quantified xs φ) (bound_up-next p n) ∙ quantified-append (bound_up p n) (cond (p n) (n ∷ []) []) φ)
  where
    go : (b : Bool) → ((ψ : Fmla) → wrapped (bound_down p n) ψ ≡ quantified (bound_up p n) ψ)
        → wrapped (cond b (n ∷ bound_down p n) (bound_down p n)) φ ≡ quantified (bound_up p n) (quantified (cond b (n ∷ []) []) φ)
    go true r = r (exists n φ)
    go false r = r φ

-- ---- their nodes

-- How many nodes a formula has, and the nodes.
abbrev pub nodes_of : Fmla → Nodes
nodes_of φ = (size φ, padded max_nodes 0 (words φ 0))

exists-put : (x : ℕ) (φ : Fmla) → size φ < max_nodes → set (padded max_nodes 0 (words φ 0)) (size φ) (exists_word x (size φ - 1)) ≡ padded max_nodes 0 (words (exists x φ) 0)
exists-put x φ h =
    (λ i. set (padded max_nodes 0 (words φ 0)) (sym (length-words φ 0) i) (exists_word x (sym (zero-add (size φ)) i - 1)))
    ∙ padded-put max_nodes 0 (words φ 0) (exists_word x (0 + size φ - 1)) (omega (arith, length-words φ 0))

exists-added : (x : ℕ) (φ : Fmla) → size φ < max_nodes → add_word (exists_word x (size φ - 1)) (size φ) (padded max_nodes 0 (words φ 0)) ≡ nodes_of (exists x φ)
exists-added x φ h = rw (lt-leb max_nodes (size φ) h) (λ i. (size φ + 1, exists-put x φ h i))

bind-wrapped : (xs : List ℕ) (φ : Fmla) → size φ + length xs ≤ max_nodes → bind_all xs (size φ) (padded max_nodes 0 (words φ 0)) ≡ nodes_of (wrapped xs φ)
bind-wrapped [] φ h = refl
bind-wrapped (x ∷ xs) φ h =
    sym
    (onward-goes (add_word (exists_word x (size φ - 1)) (size φ) (padded max_nodes 0 (words φ 0))) (bind_all xs) (size φ + 1) (padded max_nodes 0 (words (exists x φ) 0))
    (sym (exists-added x φ (omega arith))) (omega arith) (nodes_of (wrapped xs (exists x φ))) (sym (bind-wrapped xs (exists x φ) (omega arith))))

full-wrapped : (xs : List ℕ) (n : ℕ) (ns : List ℕ) → n ≤ max_nodes → max_nodes < n + length xs → max_nodes < (bind_all xs n ns).0
full-wrapped [] n ns h l = absurd (omega arith)
full-wrapped (x ∷ xs) n ns h l = go (reflects-leb max_nodes n) (full-wrapped xs (n + 1) (set ns n (exists_word x (n - 1))))
  where
    go : {b : Bool} → Reflects (max_nodes ≤ n) b → (n + 1 ≤ max_nodes → max_nodes < n + 1 + length xs → max_nodes < (bind_all xs (n + 1) (set ns n (exists_word x (n - 1)))).0)
        → max_nodes < (onward (cond b (max_nodes + 1, ns) (n + 1, set ns n (exists_word x (n - 1)))) (bind_all xs)).0
    go (holds k) r = omega arith
    go (fails k) r = rw (le-ltb max_nodes (n + 1) (omega arith)) (r (omega arith) (omega arith))

module _ (p : ℕ → Bool) (n : ℕ) (φ : Fmla) where
  wrapped-size : size φ + length (bound_down p n) ≡ size (quantified (bound_up p n) φ)
  wrapped-size = sym (size-wrapped (bound_down p n) φ) ∙ ap size (wrapped-down p n φ)

  bind-down : size (quantified (bound_up p n) φ) ≤ max_nodes → bind_all (bound_down p n) (size φ) (padded max_nodes 0 (words φ 0)) ≡ nodes_of (quantified (bound_up p n) φ)
  bind-down h = bind-wrapped (bound_down p n) φ (omega (arith, wrapped-size)) ∙ ap nodes_of (wrapped-down p n φ)

  full-down : size φ ≤ max_nodes → max_nodes < size (quantified (bound_up p n) φ) → max_nodes < (bind_all (bound_down p n) (size φ) (padded max_nodes 0 (words φ 0))).0
  full-down h l = full-wrapped (bound_down p n) (size φ) (padded max_nodes 0 (words φ 0)) h (omega (arith, wrapped-size))

-- ---- the quantifiers of a rule

-- The variables of the rule R are below 16, and p tests which of those are bound.
module _ (R : Rule) (p : ℕ → Bool) (small : (x : ℕ) → In x (variables_in (goals R)) → x < 16)
    (tests : (x : ℕ) → x < 16 → Reflects (In x (variables_in (goals R)) × ¬ In x (head R)) (p x)) where
  bound-found : bound R ≡ bound_up p 16
  bound-found =
      ascending-unique ltb ltb-order (ascending-select ltb _ (sort-ascending ltb ltb-order (variables_in (goals R)))) (ascending-select ltb p numbers) (λ x. (into x, out x))
    where
      numbers : Ascending ltb (tabulate (λ i. i) 16)
      numbers = reflected (reflects-ascending ltb ltb-order (tabulate (λ i. i) 16)) tt

      into : (x : ℕ) → In x (bound R) → In x (bound_up p 16)
      into x i = let h = (bound-members R x).0 i in in-select p (in-tabulate (λ k. k) 16 x (small x h.0)) (reflects (tests x (small x h.0)) h)

      out : (x : ℕ) → In x (bound_up p 16) → In x (bound R)
      out x i =
          let s = from-select p (tabulate (λ k. k) 16) i in
          let t = from-tabulate (λ k. k) 16 s.0 in
          (bound-members R x).1 (reflected (tests x (omega (arith, t.1, t.2))) s.1)

  module _ (φ : Fmla) where
    -- Where the nodes of φ have room for the rule's quantifiers, they become those of the quantified formula.
    pub bind-rule : size (quantified (bound R) φ) ≤ max_nodes → bind_all (bound_down p 16) (size φ) (padded max_nodes 0 (words φ 0)) ≡ nodes_of (quantified (bound R) φ)
    bind-rule h = bind-down p 16 φ (subst (λ xs. size (quantified xs φ) ≤ max_nodes) bound-found h) ∙ ap (λ xs. nodes_of (quantified xs φ)) (sym bound-found)

    -- Where they have none, the number of nodes says so.
    pub bind-full : size φ ≤ max_nodes → max_nodes < size (quantified (bound R) φ) → max_nodes < (bind_all (bound_down p 16) (size φ) (padded max_nodes 0 (words φ 0))).0
    bind-full h l = full-down p 16 φ h (subst (λ xs. max_nodes < size (quantified xs φ)) bound-found l)
