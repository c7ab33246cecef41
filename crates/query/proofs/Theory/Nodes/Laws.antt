-- Laws of packed nodes: what a node has by its kind, and how often a node is a child.
use Rattle.std.specs.Prelude.{ℕ, zero, suc, ◌+◌, ◌*◌, ◌≤◌, ◌<◌, ◌≡◌, refl, ◌⊎◌, ◌≢◌, Bool, true, false, cond, List, [], ◌∷◌, ◌++◌, length, get_or, take, set, eqb, ◌-◌}
use Rattle.std.proofs.Math.Decide.{dec_lt, ℕ_discrete}
use Rattle.std.proofs.Common.{zero-add, add-zero, add_assoc, add-one, arith, sym, ap, ◌∙◌, inl, inr, ⊎_elim, append-nil, append_assoc, length-set, take-suc, length-take-le, get_or-set_same, get_or-set_other, eq-eqb, ne_eqb}
use Rattle.calculus.specs.Sets.{In, here, there, union_of}
use Rattle.calculus.specs.Lists.{tabulate}
use Rattle.calculus.proofs.Theory.Lists.Laws.{length-tabulate, get_d_tabulate, tabulate-of}
use Rattle.query.specs.Nodes.{kind, left, right, under, children, occurrences, uses, malformed, term_count, terms, equal_term, used_terms, by_kind}
use Rattle.query.specs.Code.Judging.{counted_with}
use Rattle.query.specs.Reading.{max_nodes}

-- ---- the children, by kind

pub two-or : (k : ℕ) → 4 ≤ k → k ≤ 5 → (k ≡ 4) ⊎ (k ≡ 5)
two-or k h l = go (dec_lt k 5)
  where
    go : Dec (k < 5) → (k ≡ 4) ⊎ (k ≡ 5)
    go (yes m) = inl (omega arith)
    go (no m) = inr (omega arith)

pub children-not : (w : ℕ) → kind w ≡ 3 → children w ≡ left w ∷ []
children-not w e = rw e

pub children-exists : (w : ℕ) → kind w ≡ 6 → children w ≡ under w ∷ []
children-exists w e = rw e

-- And, or.
pub children-two : (w : ℕ) → 4 ≤ kind w → kind w ≤ 5 → children w ≡ left w ∷ right w ∷ []
children-two w h l = ⊎_elim (λ e. rw e) (λ e. rw e) (two-or (kind w) h l)

pub both-children : (w : ℕ) → (kind w ≡ 4) ⊎ (kind w ≡ 5) → In (left w) (children w) × In (right w) (children w)
both-children w k = ⊎_elim (λ e. rw e (here refl, there (here refl))) (λ e. rw e (here refl, there (here refl))) k

module _ {A : Type 0} where
  -- Neither a not, an and, an or, nor an exists.
  leaf-at : (x y z u none : A) (k : ℕ) → k ≢ 3 → k ≢ 4 → k ≢ 5 → k ≢ 6 → get_or (none ∷ none ∷ none ∷ x ∷ y ∷ z ∷ u ∷ []) k none ≡ none
  leaf-at x y z u none zero a b c d = refl
  leaf-at x y z u none (suc zero) a b c d = refl
  leaf-at x y z u none (suc (suc zero)) a b c d = refl
  leaf-at x y z u none (suc (suc (suc zero))) a b c d = absurd (a refl)
  leaf-at x y z u none (suc (suc (suc (suc zero)))) a b c d = absurd (b refl)
  leaf-at x y z u none (suc (suc (suc (suc (suc zero))))) a b c d = absurd (c refl)
  leaf-at x y z u none (suc (suc (suc (suc (suc (suc zero)))))) a b c d = absurd (d refl)
  leaf-at x y z u none (suc (suc (suc (suc (suc (suc (suc k))))))) a b c d = refl

pub children-none : (w : ℕ) → kind w ≢ 3 → kind w ≢ 4 → kind w ≢ 5 → kind w ≢ 6 → children w ≡ []
children-none w = leaf-at (left w ∷ []) (left w ∷ right w ∷ []) (left w ∷ right w ∷ []) (under w ∷ []) [] (kind w)

children-few : (w : ℕ) → length (children w) ≤ 2
children-few w = go (left w) (right w) (under w) (kind w)
  where
    go : (x y z k : ℕ) → length (get_or ([] ∷ [] ∷ [] ∷ (x ∷ []) ∷ (x ∷ y ∷ []) ∷ (x ∷ y ∷ []) ∷ (z ∷ []) ∷ []) k []) ≤ 2
    go x y z zero = omega arith
    go x y z (suc zero) = omega arith
    go x y z (suc (suc zero)) = omega arith
    go x y z (suc (suc (suc zero))) = omega arith
    go x y z (suc (suc (suc (suc zero)))) = omega arith
    go x y z (suc (suc (suc (suc (suc zero))))) = omega arith
    go x y z (suc (suc (suc (suc (suc (suc zero)))))) = omega arith
    go x y z (suc (suc (suc (suc (suc (suc (suc k))))))) = omega arith

-- ---- how often a node is a child

pub occurrences-append : (c : ℕ) (xs ys : List ℕ) → occurrences c (xs ++ ys) ≡ occurrences c xs + occurrences c ys
occurrences-append c [] ys = sym (zero-add (occurrences c ys))
occurrences-append c (x ∷ xs) ys = go (eqb c x) (occurrences c (xs ++ ys)) (occurrences c xs) (occurrences c ys) (occurrences-append c xs ys)
  where
    go : (b : Bool) (m n k : ℕ) → m ≡ n + k → cond b (suc m) m ≡ cond b (suc n) n + k
    go true m n k e = omega arith
    go false m n k e = e

occurrences-few : (c : ℕ) (xs : List ℕ) → occurrences c xs ≤ length xs
occurrences-few c [] = omega arith
occurrences-few c (x ∷ xs) = go (eqb c x) (occurrences c xs) (length xs) (occurrences-few c xs)
  where
    go : (b : Bool) (m n : ℕ) → m ≤ n → cond b (suc m) m ≤ suc n
    go true m n h = omega arith
    go false m n h = omega arith

uses-few : (ns : List ℕ) (c : ℕ) → uses ns c ≤ 2 * length ns
uses-few [] c = omega arith
uses-few (w ∷ ns) c = omega (arith, occurrences-append c (children w) (union_of children ns), occurrences-few c (children w), children-few w, uses-few ns c)

-- The uses of a node among fewer than `max_nodes` nodes are so few that two more can be counted in a byte.
pub uses-fit : (ns : List ℕ) (i c : ℕ) → i ≤ length ns → i < max_nodes → uses (take i ns) c < 254
uses-fit ns i c h l = omega (arith, uses-few (take i ns) c, length-take-le i ns h)

union-next : {A B : Type 0} (f : A → List B) (xs : List A) (x : A) → union_of f (xs ++ (x ∷ [])) ≡ union_of f xs ++ f x
union-next f [] x = append-nil (f x)
union-next f (y ∷ xs) x = rw (union-next f xs x) (sym (append_assoc (f y) (union_of f xs) (f x)))

uses-next : (ns : List ℕ) (i c : ℕ) → i < length ns → uses (take (i + 1) ns) c ≡ uses (take i ns) c + occurrences c (children (get_or ns i 0))
uses-next ns i c h = rw (add-one, take-suc ns i 0, union-next children (take i ns) (get_or ns i 0)) (occurrences-append c (union_of children (take i ns)) (children (get_or ns i 0)))

-- The counts with the children xs of a node.
abbrev with_children : List ℕ → List ℕ → ℕ → ℕ
with_children counts xs c = get_or counts c 0 + occurrences c xs

-- The uses by one node more.
pub counted_next : (ns : List ℕ) (i : ℕ) → i < length ns → counted_with (tabulate (uses (take i ns)) max_nodes) (get_or ns i 0) ≡ tabulate (uses (take (i + 1) ns)) max_nodes
counted_next ns i h =
    let xs = children (get_or ns i 0) in let before = tabulate (uses (take i ns)) max_nodes in
    tabulate-of (uses (take (i + 1) ns)) (tabulate (with_children before xs) max_nodes) max_nodes 0 (length-tabulate (with_children before xs) max_nodes)
    (λ c l. get_d_tabulate (with_children before xs) max_nodes c 0 l ∙ ap (λ (k : ℕ). k + occurrences c xs) (get_d_tabulate (uses (take i ns)) max_nodes c 0 l) ∙ sym (uses-next ns i c h))

-- The counts with one more of x.
abbrev one_more : List ℕ → ℕ → List ℕ
one_more counts x = set counts x (get_or counts x 0 + 1)

one-more-at : (counts : List ℕ) (x c : ℕ) → x < length counts → get_or (one_more counts x) c 0 ≡ get_or counts c 0 + occurrences c (x ∷ [])
one-more-at counts x c h = go (ℕ_discrete c x)
  where
    go : Dec (c ≡ x) → get_or (one_more counts x) c 0 ≡ get_or counts c 0 + occurrences c (x ∷ [])
    go (yes e) = rw (eq-eqb c x e, e) (get_or-set_same counts x (get_or counts x 0 + 1) 0 h)
    go (no n) = rw (ne_eqb c x n, add-zero) (get_or-set_other counts x c (get_or counts x 0 + 1) 0 n)

one-more-length : (counts : List ℕ) → length counts ≡ max_nodes → (x : ℕ) → length (one_more counts x) ≡ max_nodes
one-more-length counts l x = length-set counts x (get_or counts x 0 + 1) ∙ l

-- The code counts the children of a node one by one.
module _ (counts : List ℕ) (l : length counts ≡ max_nodes) (w : ℕ) where
  counted-as : {xs : List ℕ} → children w ≡ xs → tabulate (with_children counts xs) max_nodes ≡ counted_with counts w
  counted-as e = ap (λ (xs : List ℕ). tabulate (with_children counts xs) max_nodes) (sym e)

  pub counted_none : children w ≡ [] → counts ≡ counted_with counts w
  counted_none e = tabulate-of (with_children counts []) counts max_nodes 0 l (λ c h. sym (add-zero (get_or counts c 0))) ∙ counted-as e

  pub counted-one : (x : ℕ) → x < max_nodes → children w ≡ x ∷ [] → one_more counts x ≡ counted_with counts w
  counted-one x h e = tabulate-of (with_children counts (x ∷ [])) (one_more counts x) max_nodes 0 (one-more-length counts l x) (λ c k. one-more-at counts x c (omega arith)) ∙ counted-as e

  pub counted-two : (x y : ℕ) → x < max_nodes → y < max_nodes → children w ≡ x ∷ y ∷ [] → one_more (one_more counts x) y ≡ counted_with counts w
  counted-two x y h k e =
      let after = one_more counts x in let m = one-more-length counts l x in
      tabulate-of (with_children counts (x ∷ y ∷ [])) (one_more after y) max_nodes 0 (one-more-length after m y)
      (λ c i. one-more-at after y c (omega arith) ∙ ap (λ (n : ℕ). n + occurrences c (y ∷ [])) (one-more-at counts x c (omega arith)) ∙ add_assoc (get_or counts c 0) (occurrences c (x ∷ [])) (occurrences c (y ∷ [])) ∙ ap (λ (n : ℕ). get_or counts c 0 + n) (sym (occurrences-append c (x ∷ []) (y ∷ []))))
      ∙ counted-as e

-- ---- laws that stand as they stood

-- A kind past 6.
pub malformed-kind : (w : ℕ) → 6 ≤ kind w → kind w ≢ 6 → malformed w ≡ true
malformed-kind w h n = let e : kind w ≡ suc (suc (suc (suc (suc (suc (suc (kind w - 7))))))) = omega arith in rw e

module _ {A : Type 0} where
  -- Neither a record nor an equality.
  termless-at : (x y none : A) (k : ℕ) → k ≢ 1 → k ≢ 2 → get_or (none ∷ x ∷ y ∷ none ∷ none ∷ none ∷ none ∷ []) k none ≡ none
  termless-at x y none zero a b = refl
  termless-at x y none (suc zero) a b = absurd (a refl)
  termless-at x y none (suc (suc zero)) a b = absurd (b refl)
  termless-at x y none (suc (suc (suc zero))) a b = refl
  termless-at x y none (suc (suc (suc (suc zero)))) a b = refl
  termless-at x y none (suc (suc (suc (suc (suc zero))))) a b = refl
  termless-at x y none (suc (suc (suc (suc (suc (suc zero)))))) a b = refl
  termless-at x y none (suc (suc (suc (suc (suc (suc (suc k))))))) a b = refl

pub terms-none : (w : ℕ) → kind w ≢ 1 → kind w ≢ 2 → used_terms w ≡ []
terms-none w = termless-at (take (term_count w) (terms w)) (equal_term w ∷ []) [] (kind w)

pub one-more-fits : (counts : List ℕ) → length counts ≡ max_nodes → (x y : ℕ) → x < max_nodes → get_or counts y 0 < 254 → get_or (one_more counts x) y 0 < 255
one-more-fits counts l x y h m = omega (arith, one-more-at counts x y (omega arith), occurrences-few y (x ∷ []))

module _ {A : Type 0} where
  -- No record.
  pub not-record : (x none : A) (w : ℕ) → kind w ≢ 1 → by_kind none x none none none none none none w ≡ none
  not-record x none w a = go (kind w) a
    where
      go : (k : ℕ) → k ≢ 1 → get_or (none ∷ x ∷ none ∷ none ∷ none ∷ none ∷ none ∷ []) k none ≡ none
      go zero a = refl
      go (suc zero) a = absurd (a refl)
      go (suc (suc zero)) a = refl
      go (suc (suc (suc zero))) a = refl
      go (suc (suc (suc (suc zero)))) a = refl
      go (suc (suc (suc (suc (suc zero))))) a = refl
      go (suc (suc (suc (suc (suc (suc zero)))))) a = refl
      go (suc (suc (suc (suc (suc (suc (suc k))))))) a = refl
