-- The nodes of goals: the code adds to those of the goals before exactly what the next goal adds to their formula, as far as there is room.
use Rattle.std.specs.Prelude.{ℕ, ◌+◌, ◌-◌, ◌≤◌, ◌<◌, ◌≡◌, Bool, true, false, cond, List, [], ◌∷◌, ◌++◌, length, set, eqb}
use Rattle.std.proofs.Common.{arith, sym, ap, subst, ◌∙◌, append-nil, append_assoc, length-append, lt-ltb, le-ltb, ne_eqb}
use Rattle.std.proofs.Math.Path.{subst⁻¹}
use Rattle.std.proofs.Math.Seq.{append_snoc}
use Rattle.calculus.specs.Lists.{padded}
use Rattle.calculus.proofs.Theory.Lists.Laws.{padded-put}
use Rattle.calculus.specs.Reflects.{Reflects, holds, fails}
use Rattle.calculus.proofs.Theory.Reflects.Laws.{reflects-leb}
use Rattle.calculus.specs.Formula.{Fmla, conj, size}
use Rattle.calculus.specs.Satisfaction.{Pool}
use Rattle.query.specs.Nodes.{not_word, join_word}
use Rattle.query.specs.Reading.{max_nodes}
use Rattle.query.specs.Packing.{words}
use Rattle.query.proofs.Theory.Packing.Laws.{length-words, size-positive}
use Rattle.rules.specs.Grammar.{Goal}
use Rattle.rules.specs.Meaning.{goal_formula, conjoined}
use Rattle.rules.proofs.Theory.Meaning.Laws.{conjoined-append}
use Rattle.rules.specs.Code.Draft.{Nodes, add_word, deny_goal, join_goal, onward, append_goal}
use Rattle.rules.specs.Code.Keeping.{goal_nodes}

-- ---- nodes added one by one

-- The code has these words as its nodes, or they have no room.
pub data Laid (ws : List ℕ) : Nodes → Type 0 where
  laid : length ws ≤ max_nodes → Laid ws (length ws, padded max_nodes 0 ws)
  no_room : {a : Nodes} → max_nodes < length ws → max_nodes < a.0 → Laid ws a

add-laid : (w : ℕ) (ws : List ℕ) → Laid (ws ++ (w ∷ [])) (add_word w (length ws) (padded max_nodes 0 ws))
add-laid w ws = go (reflects-leb max_nodes (length ws))
  where
    more : length (ws ++ (w ∷ [])) ≡ length ws + 1
    more = length-append ws (w ∷ [])

    go : {t : Bool} → Reflects (max_nodes ≤ length ws) t → Laid (ws ++ (w ∷ [])) (cond t (max_nodes + 1, padded max_nodes 0 ws) (length ws + 1, set (padded max_nodes 0 ws) (length ws) w))
    go (holds l) = no_room {a = (max_nodes + 1, padded max_nodes 0 ws)} (omega (arith, more)) (omega arith)
    go (fails n) = subst (λ (a : Nodes). Laid (ws ++ (w ∷ [])) a) (λ i. (more i, sym (padded-put max_nodes 0 ws w (omega arith)) i)) (laid (omega (arith, more)))

onward-laid : (ws us : List ℕ) (a : Nodes) (f : ℕ → List ℕ → Nodes) → Laid ws a → (length ws ≤ max_nodes → Laid (ws ++ us) (f (length ws) (padded max_nodes 0 ws))) → Laid (ws ++ us) (onward a f)
onward-laid ws us a f (laid h) next = rw (le-ltb max_nodes (length ws) h) (next h)
onward-laid ws us a f (no_room m n) next =
    subst⁻¹ (λ t. Laid (ws ++ us) (cond t a (f a.0 a.1))) (lt-ltb max_nodes a.0 n) (no_room (omega (arith, length-append ws us)) n)

-- A not over the last of n nodes, where the goal is denied.
abbrev denials : Bool → ℕ → List ℕ
denials d n = cond d (not_word (n - 1) ∷ []) []

-- An and over the goals of the first m nodes and the last of n nodes, where there are goals before it.
abbrev joints : ℕ → ℕ → List ℕ
joints m n = cond (eqb m 0) [] (join_word 4 (m - 1) (n - 1) ∷ [])

deny-laid : (d : Bool) (ws : List ℕ) → length ws ≤ max_nodes → Laid (ws ++ denials d (length ws)) (deny_goal d (length ws) (padded max_nodes 0 ws))
deny-laid true ws h = add-laid (not_word (length ws - 1)) ws
deny-laid false ws h = subst⁻¹ (λ us. Laid us (length ws, padded max_nodes 0 ws)) (append-nil ws) (laid h)

join-laid : (m : ℕ) (ws : List ℕ) → length ws ≤ max_nodes → Laid (ws ++ joints m (length ws)) (join_goal m (length ws) (padded max_nodes 0 ws))
join-laid m ws h = go (eqb m 0)
  where
    go : (t : Bool) → Laid (ws ++ cond t [] (join_word 4 (m - 1) (length ws - 1) ∷ [])) (cond t (length ws, padded max_nodes 0 ws) (add_word (join_word 4 (m - 1) (length ws - 1)) (length ws) (padded max_nodes 0 ws)))
    go true = subst⁻¹ (λ us. Laid us (length ws, padded max_nodes 0 ws)) (append-nil ws) (laid h)
    go false = add-laid (join_word 4 (m - 1) (length ws - 1)) ws

-- ---- a goal more

-- The nodes of one goal after m nodes.
abbrev pub own_nodes : ℕ → Bool → ℕ → List ℕ
own_nodes w d m = w ∷ denials d (m + 1)

-- The same, and the and over the goals before and it.
abbrev pub next_nodes : ℕ → Bool → ℕ → List ℕ
next_nodes w d m = own_nodes w d m ++ joints m (m + length (own_nodes w d m))

-- The code adds a goal's nodes.
pub append-laid : (w : ℕ) (d : Bool) (ws : List ℕ) → Laid (ws ++ next_nodes w d (length ws)) (append_goal w d (length ws) (padded max_nodes 0 ws))
append-laid w d ws =
    subst (λ us. Laid us (append_goal w d n (padded max_nodes 0 ws))) same
    (onward-laid own (denials d (length own) ++ joints n (length whole)) (add_word w n (padded max_nodes 0 ws)) (λ m ms. onward (deny_goal d m ms) (join_goal n)) (add-laid w ws) (λ h. later h))
  where
    n : ℕ
    n = length ws

    own : List ℕ
    own = ws ++ (w ∷ [])

    whole : List ℕ
    whole = own ++ denials d (length own)

    later : length own ≤ max_nodes → Laid (own ++ (denials d (length own) ++ joints n (length whole))) (onward (deny_goal d (length own) (padded max_nodes 0 own)) (join_goal n))
    later h =
        subst (λ us. Laid us (onward (deny_goal d (length own) (padded max_nodes 0 own)) (join_goal n))) (append_assoc own (denials d (length own)) (joints n (length whole)))
        (onward-laid whole (joints n (length whole)) (deny_goal d (length own) (padded max_nodes 0 own)) (join_goal n) (deny-laid d own h) (join-laid n whole))

    one_more : length own ≡ n + 1
    one_more = length-append ws (w ∷ [])

    in_all : length whole ≡ n + length (own_nodes w d n)
    in_all = length-append own (denials d (length own)) ∙ (λ i. one_more i + length (denials d (one_more i))) ∙ omega arith

    same : own ++ (denials d (length own) ++ joints n (length whole)) ≡ ws ++ next_nodes w d n
    same = (λ i. own ++ (denials d (one_more i) ++ joints n (in_all i))) ∙ append_snoc ws w (denials d (n + 1) ++ joints n (n + length (own_nodes w d n)))

module _ (φ ψ : Fmla) (m : ℕ) (own : List ℕ) (e : size φ ≡ m) (f : words ψ m ≡ own) where
  conj-words : words (conj φ ψ) 0 ≡ words φ 0 ++ (own ++ (join_word 4 (m - 1) (m + length own - 1) ∷ []))
  conj-words =
      let from : 0 + size φ ≡ m = omega arith in
      let wide : size ψ ≡ length own = sym (length-words ψ m) ∙ ap length f in
      (λ i. words φ 0 ++ (words ψ (from i) ++ (join_word 4 (from i - 1) (from i + wide i - 1) ∷ [])))
      ∙ ap (λ us. words φ 0 ++ (us ++ (join_word 4 (m - 1) (m + length own - 1) ∷ []))) f

-- They are what the goal adds to the nodes of the goals before it.
pub nodes-last : (ps : Pool) (gs : List Goal) (g : Goal) (w : ℕ) (d : Bool) → ((m : ℕ) → words (goal_formula ps g) m ≡ own_nodes w d m)
    → goal_nodes ps (gs ++ (g ∷ [])) ≡ goal_nodes ps gs ++ next_nodes w d (length (goal_nodes ps gs))
nodes-last ps [] g w d h = h 0 ∙ sym (append-nil (own_nodes w d 0))
nodes-last ps (h ∷ hs) g w d e = ap (λ χ. words χ 0) (conjoined-append ps (goal_formula ps h) hs (g ∷ [])) ∙ last (conjoined ps (goal_formula ps h) hs)
  where
    last : (φ : Fmla) → words (conj φ (goal_formula ps g)) 0 ≡ words φ 0 ++ next_nodes w d (length (words φ 0))
    last φ =
        let m = length (words φ 0) in
        conj-words φ (goal_formula ps g) m (own_nodes w d m) (sym (length-words φ 0)) (e m)
        ∙ (rw (ne_eqb m 0 (λ z. omega (arith, length-words φ 0, size-positive φ))))
