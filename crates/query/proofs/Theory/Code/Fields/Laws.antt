-- Laws of a node taken apart: tests of its terms, and what its fields say of it.
use Rattle.std.specs.Prelude.{ℕ, zero, suc, ◌≡◌, refl, Bool, true, false, not, ◌&&◌, ◌||◌, List, [], ◌∷◌, map, take, drop, ◌-◌, ◌≤◌, ◌<◌, ◌≢◌, get_or, eqb}
use Rattle.std.proofs.Common.{sym, ap, ◌∙◌, arith, ⊎_elim}
use Rattle.calculus.specs.Sets.{any_of, all_of}
use Rattle.query.specs.declared.node.Node.TheVariants.{Record, Not, Join, Exists}
use Rattle.query.specs.declared.node.Atom.{Atom}
use Rattle.query.specs.declared.node.Connective.{Connective}
use Rattle.query.specs.declared.node.Connective.TheVariants.{And, Or}
use Rattle.query.specs.Nodes.{term_count, terms, children, nonzero, malformed, is_stray, strays, record_rest, kind, truth_rest, equality_rest, not_rest, join_rest, exists_rest}
use Rattle.query.proofs.Theory.Nodes.Laws.{children-not, children-exists, two-or, children-two, children-none}
use Rattle.query.specs.Code.Fields.{IsNode, rest_of, itself, NodeOf}
use Rattle.std.proofs.Math.Bool.{or-false}
use Rattle.query.specs.declared.node.Parts.{Parts}

-- ---- tests of terms

-- All of the first elements pass where none of the tests finds one that doesn't.
pub all_tested : {A : Type 0} (f : A → Bool) (n : ℕ) (xs : List A) → all_of f (take n xs) ≡ not (any_of itself (take n (map (λ x. not (f x)) xs)))
all_tested f zero xs = refl
all_tested f (suc n) [] = refl
all_tested f (suc n) (x ∷ xs) = both (f x) (any_of itself (take n (map (λ y. not (f y)) xs))) (all_tested f n xs)
  where
    both : (b d : Bool) {c : Bool} → c ≡ not d → (b && c) ≡ not (not b || d)
    both true d e = e
    both false d e = refl

-- ---- the children, by what a node is

pub children-Not : (w : ℕ) {c : ℕ} → IsNode w (Not c) → children w ≡ c ∷ []
children-Not w n = children-not w n.0 ∙ ap (λ c. c ∷ []) (sym n.1)

pub children-Exists : (w : ℕ) {x c : ℕ} → IsNode w (Exists x c) → children w ≡ c ∷ []
children-Exists w n = children-exists w n.0 ∙ ap (λ c. c ∷ []) (sym n.3)

pub children-Join : (w : ℕ) {l r : ℕ} (k : Connective) → IsNode w (Join k l r) → children w ≡ l ∷ r ∷ []
children-Join w And n = rw n.0 (λ i. sym n.1 i ∷ sym n.3 i ∷ [])
children-Join w Or n = rw n.0 (λ i. sym n.1 i ∷ sym n.3 i ∷ [])

-- ---- the terms of a record

pub malformed-Record : (w : ℕ) (a : Atom) → IsNode w (Record a) → rest_of w ≡ 0 → any_of nonzero (drop a.count a.terms) ≡ malformed w
malformed-Record w a n z =
    (λ i. any_of nonzero (drop (n.3 i) (n.4 i))) ∙ rw n.0 (ap (λ r. nonzero r || any_of nonzero (drop (term_count w) (terms w))) (sym rest))
  where
    rest : record_rest w ≡ 0
    rest = sym (rw n.0 refl) ∙ z

pub strays-Record : (k w : ℕ) (a : Atom) → IsNode w (Record a) → any_of (is_stray k) (take a.count a.terms) ≡ strays k w
strays-Record k w a n = (λ i. any_of (is_stray k) (take (n.3 i) (n.4 i))) ∙ rw n.0 refl

-- ---- laws that stand as they stood

-- Some of the first tests is true exactly where it is of some of the first elements.
pub some-tested : {A : Type 0} (f : A → Bool) (n : ℕ) (xs : List A) → any_of itself (take n (map f xs)) ≡ any_of f (take n xs)
some-tested f zero xs = refl
some-tested f (suc n) [] = refl
some-tested f (suc n) (x ∷ xs) = λ i. f x || some-tested f n xs i

pub rest-two : (w : ℕ) → 4 ≤ kind w → kind w ≤ 5 → rest_of w ≡ join_rest w
rest-two w h l = ⊎_elim (λ e. rw e) (λ e. rw e) (two-or (kind w) h l)

pub rest-none : (w : ℕ) → 6 ≤ kind w → kind w ≢ 6 → rest_of w ≡ 0
rest-none w h n = let e : kind w ≡ suc (suc (suc (suc (suc (suc (suc (kind w - 7))))))) = omega arith in rw e

-- Of a known kind a node is malformed where a bit past its fields is set, or it is a record with an unused term set.
by-rest : (k a b c d e f g : ℕ) (x : Bool) → k < 7
    → get_or (nonzero a ∷ (nonzero b || x) ∷ nonzero c ∷ nonzero d ∷ nonzero e ∷ nonzero f ∷ nonzero g ∷ []) k true ≡ (nonzero (get_or (a ∷ b ∷ c ∷ d ∷ e ∷ f ∷ g ∷ []) k 0) || (eqb k 1 && x))
by-rest zero a b c d e f g x h = sym (or-false (nonzero a))
by-rest (suc zero) a b c d e f g x h = refl
by-rest (suc (suc zero)) a b c d e f g x h = sym (or-false (nonzero c))
by-rest (suc (suc (suc zero))) a b c d e f g x h = sym (or-false (nonzero d))
by-rest (suc (suc (suc (suc zero)))) a b c d e f g x h = sym (or-false (nonzero e))
by-rest (suc (suc (suc (suc (suc zero))))) a b c d e f g x h = sym (or-false (nonzero f))
by-rest (suc (suc (suc (suc (suc (suc zero)))))) a b c d e f g x h = sym (or-false (nonzero g))
by-rest (suc (suc (suc (suc (suc (suc (suc k))))))) a b c d e f g x h = absurd (omega arith)

pub malformed-rest : (w : ℕ) → kind w < 7 → malformed w ≡ (nonzero (rest_of w) || (eqb (kind w) 1 && any_of nonzero (drop (term_count w) (terms w))))
malformed-rest w = by-rest (kind w) (truth_rest w) (record_rest w) (equality_rest w) (not_rest w) (join_rest w) (join_rest w) (exists_rest w) (any_of nonzero (drop (term_count w) (terms w)))

module _ {w : ℕ} {f : Parts} (n : NodeOf w f) where
  pub kind-read : {j : ℕ} → f.kind ≡ j → kind w ≡ j
  kind-read k = ap (λ g. g.kind) (sym n.reads) ∙ k

  pub kind-not-read : {j : ℕ} → f.kind ≢ j → kind w ≢ j
  kind-not-read k q = k (ap (λ g. g.kind) n.reads ∙ q)

  pub kind-two-read : 4 ≤ f.kind → f.kind ≤ 5 → (4 ≤ kind w) × (kind w ≤ 5)
  kind-two-read h l = let k = ap (λ g. g.kind) n.reads in (omega (arith, k), omega (arith, k))

  pub children-not-read : f.kind ≡ 3 → children w ≡ f.left ∷ []
  children-not-read k = children-not w (kind-read k) ∙ ap (λ g. g.left ∷ []) (sym n.reads)

  pub children-exists-read : f.kind ≡ 6 → children w ≡ f.under ∷ []
  children-exists-read k = children-exists w (kind-read k) ∙ ap (λ g. g.under ∷ []) (sym n.reads)

  pub children-two-read : 4 ≤ f.kind → f.kind ≤ 5 → children w ≡ f.left ∷ f.right ∷ []
  children-two-read h l = let k = kind-two-read h l in children-two w k.0 k.1 ∙ ap (λ g. g.left ∷ g.right ∷ []) (sym n.reads)

  pub children-none-read : f.kind ≢ 3 → f.kind ≢ 4 → f.kind ≢ 5 → f.kind ≢ 6 → children w ≡ []
  children-none-read a b c d = children-none w (kind-not-read a) (kind-not-read b) (kind-not-read c) (kind-not-read d)
