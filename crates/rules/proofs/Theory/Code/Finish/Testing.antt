-- Tests of the head's variables, and an exists at a time.
use Rattle.std.specs.Prelude.{Option, Some, None, ℕ, suc, ◌-◌, ◌≤◌, ◌<◌, ◌≡◌, refl, Bool, true, false, not, cond, List, ◌∷◌, get_or, take, [], length, ◌&&◌}
use Rattle.std.proofs.Common.{arith, sym, ap, subst, ◌∙◌, lt-ltb, le-ltb}
use Rattle.calculus.specs.Sets.{any_of, member}
use Rattle.rules.specs.Reply.{Packing, refused}
use Rattle.query.specs.Nodes.{exists_word}
use Rattle.query.specs.Reading.{max_nodes}
use Rattle.rules.specs.Code.Draft.{Head, Body, Nodes, add_word, with_room}
use Rattle.rules.proofs.Theory.Code.Draft.Laws.{onward-full, onward-goes, added-one, room-none, room-some}
use Rattle.rules.specs.Code.Finish.{is_bound, bound_down, bind_all, packing_of, quantified_reply, finished}
use Rattle.calculus.proofs.Theory.Lists.Laws.{four-of}
use Rattle.query.specs.Code.Fields.{itself}
use Rattle.query.proofs.Theory.Code.Fields.Laws.{some-tested}
use Rattle.std.proofs.lemmas.Bool.{not-true, not-false}

-- The next number down passes the test or not.
module _ (p : ℕ → Bool) where
  next_down : (t : Bool) (x y : ℕ) → x ≡ suc y → p y ≡ t → bound_down p x ≡ cond t (y ∷ bound_down p y) (bound_down p y)
  next_down t x y e f = ap (bound_down p) e ∙ ap (λ b. cond b (y ∷ bound_down p y) (bound_down p y)) f

  pub bound-one : (x y : ℕ) → x ≡ suc y → p y ≡ true → bound_down p x ≡ y ∷ bound_down p y
  bound-one x y e f = next_down true x y e f

  pub bound-none : (x y : ℕ) → x ≡ suc y → p y ≡ false → bound_down p x ≡ bound_down p y
  bound-none x y e f = next_down false x y e f

-- An exists that had no room ends there; otherwise those that are left decide.
module _ (x : ℕ) (xs : List ℕ) (n : ℕ) (ns : List ℕ) (w m : ℕ) (ms : List ℕ) (k : w ≡ exists_word x (n - 1)) (e : ◌≡◌ {A = Nodes} (m, ms) (add_word w n ns)) where
  as-word : ◌≡◌ {A = Nodes} (m, ms) (add_word (exists_word x (n - 1)) n ns)
  as-word = subst (λ u. ◌≡◌ {A = Nodes} (m, ms) (add_word u n ns)) k e

  pub bind-full : max_nodes < m → ◌≡◌ {A = Nodes} (m, ms) (bind_all (x ∷ xs) n ns)
  bind-full h = onward-full (add_word (exists_word x (n - 1)) n ns) (bind_all xs) m ms as-word h

  pub bind_goes : m ≤ max_nodes → bind_all (x ∷ xs) n ns ≡ bind_all xs m ms
  bind_goes h = sym (onward-goes (add_word (exists_word x (n - 1)) n ns) (bind_all xs) m ms as-word h (bind_all xs m ms) refl)

-- The same as the code has it: what is left of all exists, once those of the numbers from x on are laid over n nodes.
module _ (p : ℕ → Bool) (a : Nodes) (x n : ℕ) (ns : List ℕ) (e : a ≡ bind_all (bound_down p x) n ns) where
  pub bound-ends : x ≤ 0 → n ≤ max_nodes → (Some n, ns) ≡ with_room a
  bound-ends h l =
      let z : x ≡ 0 = omega arith in
      sym (ap with_room e ∙ ap (λ y. with_room (bind_all (bound_down p y) n ns)) z ∙ ap (λ b. (cond b None (Some n), ns)) (le-ltb max_nodes n l))

  module _ (y : ℕ) (h : 0 < x) (z : y ≡ x - 1) where
    pub bound-skips : (t : Bool) → t ≡ p y → t ≡ false → a ≡ bind_all (bound_down p y) n ns
    bound-skips t f g = e ∙ ap (λ xs. bind_all xs n ns) (bound-none p x y (omega arith) (sym f ∙ g))

    module _ (t : Bool) (f : t ≡ p y) (g : t ≡ true) (v w : ℕ) (i : v ≡ y) (k : w ≡ exists_word v (n - 1)) (r : Option ℕ) (ms : List ℕ) (q : (r, ms) ≡ with_room (add_word w n ns)) where
      at_one : a ≡ bind_all (y ∷ bound_down p y) n ns
      at_one = e ∙ ap (λ xs. bind_all xs n ns) (bound-one p x y (omega arith) (sym f ∙ g))

      as-exists : w ≡ exists_word y (n - 1)
      as-exists = k ∙ ap (λ u. exists_word u (n - 1)) i

      pub bound-full : r ≡ None → (o : Option ℕ) → o ≡ None → (o, ms) ≡ with_room a
      bound-full d o c =
          let b = room-none (add_word w n ns) r ms q d in
          ap (λ u. (u, ms)) c ∙ sym (ap with_room (at_one ∙ sym (bind-full y (bound_down p y) n ns w (add_word w n ns).0 ms as-exists (λ j. ((add_word w n ns).0, sym b.1 j)) b.0)) ∙ ap (λ u. (cond u None (Some (add_word w n ns).0), ms)) (lt-ltb max_nodes (add_word w n ns).0 b.0))

      pub bound-goes : (m : ℕ) → r ≡ Some m → (1 ≤ m) × (m ≤ max_nodes) × (a ≡ bind_all (bound_down p y) m ms)
      bound-goes m d =
          let b = room-some (add_word w n ns) r ms q m d in let o = added-one w n ns m ms b.1 b.0 in
          (omega arith, b.0, at_one ∙ bind_goes y (bound_down p y) n ns w m ms as-exists b.1 b.0)

-- The ways in which reading a rule ends.
module _ (h : Head) (b : Body) (cs ns : List ℕ) (n : ℕ) where
  abbrev after-seen : Packing
  after-seen = quantified_reply b cs (bind_all (bound_down (is_bound h b.seen) 16) b.nodes ns) n

  abbrev after-body : Packing
  after-body = cond (any_of (λ x. not (get_or b.seen x false)) (take h.count h.variables)) (refused n) after-seen

  abbrev after-head : Packing
  after-head = cond b.over (refused n) after-body

  pub ends-head : h.over ≡ true → (r : Packing) → r ≡ refused n → r ≡ finished h b cs ns n
  ends-head e r f = f ∙ sym (ap (λ t. cond t (refused n) after-head) e)

  module _ (e : h.over ≡ false) where
    past_head : after-head ≡ finished h b cs ns n
    past_head = sym (ap (λ t. cond t (refused n) after-head) e)

    pub ends-body : b.over ≡ true → (r : Packing) → r ≡ refused n → r ≡ finished h b cs ns n
    ends-body o r f = f ∙ sym (ap (λ t. cond t (refused n) after-body) o) ∙ past_head

    module _ (o : b.over ≡ false) (m : Bool) (k : m ≡ any_of (λ x. not (get_or b.seen x false)) (take h.count h.variables)) where
      past-body : after-body ≡ finished h b cs ns n
      past-body = sym (ap (λ t. cond t (refused n) after-body) o) ∙ past_head

      pub ends-missing : m ≡ true → (r : Packing) → r ≡ refused n → r ≡ finished h b cs ns n
      ends-missing t r f = f ∙ sym (ap (λ u. cond u (refused n) after-seen) (sym k ∙ t)) ∙ past-body

      module _ (t : m ≡ false) (end : ℕ) (all : List ℕ) (q : ◌≡◌ {A = Nodes} (end, all) (bind_all (bound_down (is_bound h b.seen) 16) b.nodes ns)) where
        past-seen : quantified_reply b cs (end, all) n ≡ finished h b cs ns n
        past-seen = ap (λ a. quantified_reply b cs a n) q ∙ sym (ap (λ u. cond u (refused n) after-seen) (sym k ∙ t)) ∙ past-body

        pub ends-full : max_nodes < end → (r : Packing) → r ≡ refused n → r ≡ finished h b cs ns n
        ends-full l r f = f ∙ sym (ap (λ u. cond u (refused n) (packing_of cs b.constants all end)) (lt-ltb max_nodes end l)) ∙ past-seen

        pub ends-packed : end ≤ max_nodes → (r : Packing) → r ≡ packing_of cs b.constants all end → r ≡ finished h b cs ns n
        ends-packed l r f = f ∙ sym (ap (λ u. cond u (refused n) (packing_of cs b.constants all end)) (le-ltb max_nodes end l)) ∙ past-seen

-- ---- laws that stand as they stood

-- Four tests, the first n of which count, are one test of the first n of four numbers.
pub four-tested : (f : ℕ → Bool) (n : ℕ) (xs : List ℕ) → length xs ≡ 4
    → any_of itself (take n (f (get_or xs 0 0) ∷ f (get_or xs 1 0) ∷ f (get_or xs 2 0) ∷ f (get_or xs 3 0) ∷ [])) ≡ any_of f (take n xs)
four-tested f n xs l =
    some-tested f n (get_or xs 0 0 ∷ get_or xs 1 0 ∷ get_or xs 2 0 ∷ get_or xs 3 0 ∷ []) ∙ ap (λ ys. any_of f (take n ys)) (sym (four-of xs 0 l))

-- Whether a variable needs an exists, by its two tests.
module _ (h : Head) (seen : List Bool) (x : ℕ) where
  pub bound-unseen : not (get_or seen x false) ≡ true → false ≡ is_bound h seen x
  bound-unseen t = sym (ap (λ b. b && not (member x (take h.count h.variables))) (not-true (get_or seen x false) t))

  pub bound-seen : not (get_or seen x false) ≡ false → (r : Bool) → r ≡ member x (take h.count h.variables) → not r ≡ is_bound h seen x
  bound-seen t r f = ap not f ∙ sym (ap (λ b. b && not (member x (take h.count h.variables))) (not-false (get_or seen x false) t))
