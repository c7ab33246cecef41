-- Laws of what the code keeps of a rule: of numbers past all limits, of places among the constants, and of nodes added one by one.
use Rattle.std.specs.Prelude.{Option, Some, None, Ok, Err, ok_or, ℕ, suc, ◌+◌, ◌≤◌, ◌<◌, ◌*◌, ◌≡◌, refl, Bool, cond, List, set, drop, ◌-◌, true, false, ◌∷◌, length, get_or, ltb}
use Rattle.std.proofs.Common.{arith, sym, ap, subst, ◌∙◌, lt-ltb, le-ltb, add-one, drop_of_length-le, drop-cons, eq-eqb, ne_eqb}
use Rattle.calculus.specs.Reflects.{Reflects, holds, fails}
use Rattle.calculus.proofs.Theory.Reflects.Laws.{reflects-ltb, reflects-leb}
use Rattle.query.specs.Reading.{max_nodes}
use Rattle.rules.specs.Meaning.{place_in, max_terms}
use Rattle.rules.specs.Code.Draft.{Body, with_room, past, capped, capped_more, Nodes, add_word, onward, deny_goal, join_goal, overrun, unnamed, put_variable, put_constant, put_term, append_goal, fresh_goal, settled}
use Rattle.query.specs.Nodes.{not_word, join_word}
use Rattle.std.proofs.lemmas.Bool.{lt-leb}

-- ---- numbers

pub capped-past : (n : ℕ) → past ≤ n → capped n ≡ past
capped-past n h = go (reflects-ltb past n)
  where
    go : {b : Bool} → Reflects (past < n) b → cond b past n ≡ past
    go (holds l) = refl
    go (fails g) = omega arith

-- The code's number is no larger than the number read.
pub capped_le : (n : ℕ) → capped n ≤ n
capped_le n = go (reflects-ltb past n)
  where
    go : {b : Bool} → Reflects (past < n) b → cond b past n ≤ n
    go (holds l) = omega arith
    go (fails g) = omega arith

-- It is the number read where it is not past all limits.
pub capped-below : (n : ℕ) → capped n < past → capped n ≡ n
capped-below n = go (reflects-ltb past n)
  where
    go : {b : Bool} → Reflects (past < n) b → cond b past n < past → cond b past n ≡ n
    go (holds l) h = absurd (omega arith)
    go (fails g) h = refl

-- It is 0 only where the number read is.
pub capped-positive : (n : ℕ) → ¬ (capped (suc n) ≡ 0)
capped-positive n = go (reflects-ltb past (suc n))
  where
    go : {b : Bool} → Reflects (past < suc n) b → ¬ (cond b past (suc n) ≡ 0)
    go (holds l) e = omega arith
    go (fails g) e = omega arith

-- A digit more makes the same of the code's number as of the number read.
pub capped_more-capped : (n d : ℕ) → capped_more (capped n) d ≡ capped (n * 10 + d)
capped_more-capped n d = go (reflects-ltb past n)
  where
    go : {b : Bool} → Reflects (past < n) b → capped_more (cond b past n) d ≡ capped (n * 10 + d)
    go (holds l) = capped-past (past * 10 + d) (omega arith) ∙ sym (capped-past (n * 10 + d) (omega arith))
    go (fails g) = refl

-- ---- places among the constants

-- What is left decides: the place is among the constants from i on.
abbrev pub PlaceFrom : List ℕ → ℕ → ℕ → Type 0
PlaceFrom xs v i = place_in xs v ≡ i + place_in (drop i xs) v

-- ---- a Result of an Option

pub was-some : {A E : Type 0} (o : Option A) (e : E) (a : A) → ok_or o e ≡ Ok a → o ≡ Some a
was-some None e a f = absurd (cc)
was-some (Some b) e a f = cc

pub was-none : {A E : Type 0} (o : Option A) (e d : E) → ok_or o e ≡ Err d → o ≡ None
was-none None e d f = refl
was-none (Some b) e d f = absurd (cc)

-- ---- nodes added one by one

-- What the code has of their number says whether there was room.
module _ (a : Nodes) (r : Option ℕ) (ms : List ℕ) (e : (r, ms) ≡ with_room a) where
  pub room-none : r ≡ None → (max_nodes < a.0) × (a.1 ≡ ms)
  room-none d = (go (reflects-ltb max_nodes a.0) (sym d ∙ ap (λ q. q.0) e), ap (λ q. q.1) (sym e))
    where
      go : {b : Bool} → Reflects (max_nodes < a.0) b → None ≡ cond b None (Some a.0) → max_nodes < a.0
      go (holds l) f = l
      go (fails g) f = cc

  pub room-some : (m : ℕ) → r ≡ Some m → (m ≤ max_nodes) × ◌≡◌ {A = Nodes} (m, ms) a
  room-some m d = go (reflects-ltb max_nodes a.0) (sym d ∙ ap (λ q. q.0) e)
    where
      go : {b : Bool} → Reflects (max_nodes < a.0) b → Some m ≡ cond b None (Some a.0) → (m ≤ max_nodes) × ◌≡◌ {A = Nodes} (m, ms) a
      go (holds l) f = absurd (cc)
      go (fails g) f = let z : m ≡ a.0 = cc in (omega arith, λ i. (z i, ap (λ q. q.1) e i))

-- What was added and has no room ends there; otherwise what comes next decides.
module _ (a : Nodes) (f : ℕ → List ℕ → Nodes) (n : ℕ) (ns : List ℕ) (e : ◌≡◌ {A = Nodes} (n, ns) a) where
  pub onward-full : max_nodes < n → ◌≡◌ {A = Nodes} (n, ns) (onward a f)
  onward-full h = subst (λ b. ◌≡◌ {A = Nodes} (n, ns) (onward b f)) e (rw (lt-ltb max_nodes n h))

  pub onward-goes : n ≤ max_nodes → (b : Nodes) → b ≡ f n ns → b ≡ onward a f
  onward-goes h b d = subst (λ c. b ≡ onward c f) e (rw (le-ltb max_nodes n h) d)

-- A node that had room is the last one.
pub added-one : (w n : ℕ) (ns : List ℕ) (m : ℕ) (ms : List ℕ) → ◌≡◌ {A = Nodes} (m, ms) (add_word w n ns) → m ≤ max_nodes → m ≡ n + 1
added-one w n ns m ms e h = go (reflects-leb max_nodes n) e
  where
    go : {b : Bool} → Reflects (max_nodes ≤ n) b → ◌≡◌ {A = Nodes} (m, ms) (cond b (max_nodes + 1, ns) (n + 1, set ns n w)) → m ≡ n + 1
    go (holds l) d = let z : m ≡ max_nodes + 1 = ap (λ q. q.0) d in absurd (omega arith)
    go (fails g) d = ap (λ q. q.0) d

-- ---- laws that stand as they stood

pub capped-within : (n : ℕ) → n ≤ past → capped n ≡ n
capped-within n h = rw (le-ltb past n h)

module _ (xs : List ℕ) (v i : ℕ) where
  place-next : i < length xs → i + place_in (drop i xs) v ≡ i + place_in (get_or xs i 0 ∷ drop (suc i) xs) v
  place-next h = ap (λ ys. i + place_in ys v) (drop-cons xs i 0 h)

  pub place_here : i < length xs → get_or xs i 0 ≡ v → PlaceFrom xs v i → place_in xs v ≡ i
  place_here h e p = p ∙ place-next h ∙ (rw (eq-eqb v (get_or xs i 0) (sym e)) (omega arith))

  pub place-on : i < length xs → ¬ (get_or xs i 0 ≡ v) → PlaceFrom xs v i → PlaceFrom xs v (i + 1)
  place-on h n p = p ∙ place-next h ∙ (rw (ne_eqb v (get_or xs i 0) (λ e. n (sym e)), add-one i) (omega arith))

  pub place-ends : length xs ≤ i → PlaceFrom xs v i → place_in xs v ≡ i
  place-ends h p = p ∙ (rw (drop_of_length-le xs h) (omega arith))

-- There are no fewer nodes with a not.
pub denied-no-fewer : (d : Bool) (n : ℕ) (ns : List ℕ) (m : ℕ) (ms : List ℕ) → n ≤ max_nodes → ◌≡◌ {A = Nodes} (m, ms) (deny_goal d n ns) → n ≤ m
denied-no-fewer true n ns m ms h e = go (reflects-leb max_nodes n) e
  where
    go : {b : Bool} → Reflects (max_nodes ≤ n) b → ◌≡◌ {A = Nodes} (m, ms) (cond b (max_nodes + 1, ns) (n + 1, set ns n (not_word (n - 1)))) → n ≤ m
    go (holds l) d = let z : m ≡ max_nodes + 1 = ap (λ q. q.0) d in omega arith
    go (fails g) d = let z : m ≡ n + 1 = ap (λ q. q.0) d in omega arith
denied-no-fewer false n ns m ms h e = let z : m ≡ n = ap (λ q. q.0) e in omega arith

-- A not and an and, once their words are made.
pub deny-made : (d : Bool) (w n : ℕ) (ns : List ℕ) (r : Nodes) → d ≡ true → w ≡ not_word (n - 1) → r ≡ add_word w n ns → r ≡ deny_goal d n ns
deny-made d w n ns r t e f = rw t (subst (λ u. r ≡ add_word u n ns) e f)

pub join-made : (m w n : ℕ) (ns : List ℕ) (r : Nodes) → ¬ (m ≡ 0) → w ≡ join_word 4 (m - 1) (n - 1) → r ≡ add_word w n ns → r ≡ join_goal m n ns
join-made m w n ns r t e f = rw (ne_eqb m 0 t) (subst (λ u. r ≡ add_word u n ns) e f)

-- A goal's nodes had no room, or they had.
module _ (b : Body) (w : ℕ) (ns : List ℕ) (m : ℕ) (ms : List ℕ) (e : ◌≡◌ {A = Nodes} (m, ms) (append_goal w b.denied b.nodes ns)) where
  pub settled-full : max_nodes < m → ◌≡◌ {A = Body × List ℕ} (overrun b, ms) (settled b w ns)
  settled-full h = subst (λ a. ◌≡◌ {A = Body × List ℕ} (overrun b, ms) (cond (ltb max_nodes a.0) (overrun b) (fresh_goal b a.0), a.1)) e (rw (lt-ltb max_nodes m h))

  pub settled-done : m ≤ max_nodes → ◌≡◌ {A = Body × List ℕ} (fresh_goal b m, ms) (settled b w ns)
  settled-done h = subst (λ a. ◌≡◌ {A = Body × List ℕ} (fresh_goal b m, ms) (cond (ltb max_nodes a.0) (overrun b) (fresh_goal b a.0), a.1)) e (rw (le-ltb max_nodes m h))

-- A term that is a variable, and one that is a value.
module _ (b : Body) (x : ℕ) (cs : List ℕ) (l : b.count < max_terms) where
  term-goes : (r : Body × List ℕ) → r ≡ cond b.named (put_variable (unnamed b) x, cs) (put_constant b x cs) → r ≡ put_term b x cs
  term-goes r e = e ∙ sym (ap (λ t. cond t (overrun b, cs) (cond b.named (put_variable (unnamed b) x, cs) (put_constant b x cs))) (lt-leb max_terms b.count l))

  pub term-variable : b.named ≡ true → (c : Body) → c ≡ put_variable (unnamed b) x → ◌≡◌ {A = Body × List ℕ} (c, cs) (put_term b x cs)
  term-variable v c e = term-goes (c, cs) (ap (λ d. (d, cs)) e ∙ sym (ap (λ t. cond t (put_variable (unnamed b) x, cs) (put_constant b x cs)) v))

  pub term-constant : b.named ≡ false → (r : Body × List ℕ) → r ≡ put_constant b x cs → r ≡ put_term b x cs
  term-constant v r e = term-goes r (e ∙ sym (ap (λ t. cond t (put_variable (unnamed b) x, cs) (put_constant b x cs)) v))
