-- Laws of what the code keeps of the goals: a rule past a limit stays past it, and the effects that change neither terms nor goals.
use Rattle.std.specs.Prelude.{ℕ, zero, suc, ◌<◌, ◌≡◌, refl, Bool, true, false, cond, List, [], ◌∷◌, ◌++◌, get_or, replicate}
use Rattle.std.proofs.Common.{arith, sym, ap, ◌∙◌, true≢false, append-nil}
use Rattle.std.proofs.lemmas.List.{get_or-replicate}
use Rattle.calculus.specs.Sets.{union_of}
use Rattle.calculus.proofs.Theory.Sets.Laws.{in-nil, union-append}
use Rattle.rules.specs.Grammar.{Term, Goal}
use Rattle.rules.specs.Meaning.{max_terms}
use Rattle.rules.proofs.Theory.Code.Draft.Bounds.{small-overrun}
use Rattle.rules.specs.Code.Draft.{Body, capped, body_of, overrun, Small, empty_body}
use Rattle.rules.specs.Code.Scan.{Goals, by_effect, body_step}
use Rattle.rules.specs.Code.Keeping.{Account, account_of, idle, Fine, Stored, Keeps, KeepsAll}

-- ---- lists

-- The union over a list with one element more at its end.
pub union-last : {A B : Type 0} (f : A → List B) (xs : List A) (x : A) → union_of f (xs ++ (x ∷ [])) ≡ union_of f xs ++ f x
union-last f xs x = union-append f xs (x ∷ []) ∙ ap (λ ys. union_of f xs ++ ys) (append-nil (f x))

-- A property of an element holds of every place of its copies.
pub copies-each : {A : Type 0} (P : A → Type 0) (n : ℕ) (z : A) → P z → (i : ℕ) → P (get_or (replicate n z) i z)
copies-each P zero z p i = p
copies-each P (suc n) z p zero = p
copies-each P (suc n) z p (suc i) = copies-each P n z p i

-- ---- past a limit

-- Once a limit is passed, only the bounds are kept.
pub past-limit : {a : Account} {b : Body} {cs ns : List ℕ} → Small b → b.over ≡ true → ¬ Fine a → Keeps a b cs ns
past-limit s o n = record { bounds = s; judged = λ e. n; stored = λ e. absurd (true≢false (sym o ∙ e)) }

-- What comes next passes a limit.
pub keeps-overrun : {a : Account} {b : Body} {cs ns : List ℕ} → Small b → ¬ Fine a → Keeps a (overrun b) cs ns
keeps-overrun s n = past-limit (small-overrun s) refl n

-- No limit is passed.
pub within-limits : {a : Account} {b : Body} {cs ns : List ℕ} → Small b → b.over ≡ false → Fine a → Stored a b cs ns → Keeps a b cs ns
within-limits s o f t = record { bounds = s; judged = λ e. absurd (true≢false (sym e ∙ o)); stored = λ e. (f, t) }

-- A step that does nothing past a limit keeps the account e where it does so before one.
pub keeps-guarded : (a e : Account) (b : Body) (cs ns : List ℕ) (g : Goals) → (Fine e → Fine a) → Keeps a b cs ns → (b.over ≡ false → KeepsAll e g) → KeepsAll e (cond b.over (b, (cs, ns)) g)
keeps-guarded a e b cs ns g back k next = go b.over refl
  where
    go : (o : Bool) → b.over ≡ o → KeepsAll e (cond o (b, (cs, ns)) g)
    go true q = past-limit k.bounds q (λ f. k.judged q (back f))
    go false q = next q

-- ---- the start

-- Nothing has been read.
pub keeps-start : Keeps (idle []) empty_body (replicate 16 0) (replicate 64 0)
keeps-start = within-limits small refl fine stored
  where
    small : Small empty_body
    small =
        record {
          count_small = omega arith;
          terms_small = copies-each (λ x. x < 32) max_terms 0 (omega arith);
          constants_small = omega arith;
          nodes_small = omega arith;
        }

    fine : Fine (idle [])
    fine =
        record {
          few_terms = omega arith;
          few_goal_terms = λ g i. absurd (in-nil i);
          small_relations = λ r i. absurd (in-nil i);
          small_variables = λ x i. absurd (in-nil i);
          small_values = λ v i. absurd (in-nil i);
          few_constants = omega arith;
          few_nodes = omega arith;
        }

    stored : Stored (idle []) empty_body (replicate 16 0) (replicate 64 0)
    stored =
        record {
          denied_is = refl;
          named_is = refl;
          subject_is = refl;
          terms_are = refl;
          count_is = refl;
          seen_length = refl;
          seen_is = λ x h. get_or-replicate 16 x false false h;
          constants_is = refl;
          pool_is = refl;
          nodes_is = refl;
          nodes_are = refl;
        }

-- ---- effects that change neither terms nor goals

-- The limits don't speak of the goal's not, X, relation or variable.
fine-same : (gs : List Goal) (ts : List Term) (d v : Bool) (r : ℕ) (e w : Bool) (q : ℕ) → Fine (account_of gs d v r ts) → Fine (account_of gs e w q ts)
fine-same gs ts d v r e w q f =
    record {
      few_terms = f.few_terms;
      few_goal_terms = f.few_goal_terms;
      small_relations = f.small_relations;
      small_variables = f.small_variables;
      small_values = f.small_values;
      few_constants = f.few_constants;
      few_nodes = f.few_nodes;
    }

-- Effect 0 leaves everything as it is.
pub keeps-nothing : (b : Body) (n : ℕ) (cs ns : List ℕ) → ◌≡◌ {A = Goals} (body_step 0 b n cs ns) (b, (cs, ns))
keeps-nothing b n cs ns = go b.over
  where
    go : (o : Bool) → ◌≡◌ {A = Goals} (cond o (b, (cs, ns)) (by_effect 0 b n cs ns)) (b, (cs, ns))
    go true = refl
    go false = refl

-- The same goals and terms, and another not, X, and relation or variable.
module _ (gs : List Goal) (ts : List Term) (d v : Bool) (r : ℕ) (b : Body) (cs ns : List ℕ) (k : Keeps (account_of gs d v r ts) b cs ns) where
  abbrev marked : Bool → Bool → ℕ → Body
  marked e w q = body_of e w q b.terms b.count b.seen b.constants b.nodes b.over

  -- A step that changes only these.
  keeps-marked : (d' v' : Bool) (r' : ℕ) (e w : Bool) (q : ℕ) → (b.over ≡ false → (e ≡ d') × (w ≡ v') × (q ≡ capped r'))
      → KeepsAll (account_of gs d' v' r' ts) (cond b.over (b, (cs, ns)) (marked e w q, (cs, ns)))
  keeps-marked d' v' r' e w q same = keeps-guarded (account_of gs d v r ts) (account_of gs d' v' r' ts) b cs ns (marked e w q, (cs, ns)) (fine-same gs ts d' v' r' d v r) k next
    where
      next : b.over ≡ false → KeepsAll (account_of gs d' v' r' ts) (marked e w q, (cs, ns))
      next o =
          let s = k.bounds in let t = (k.stored o).1 in
          within-limits
          (record { count_small = s.count_small; terms_small = s.terms_small; constants_small = s.constants_small; nodes_small = s.nodes_small })
          o
          (fine-same gs ts d v r d' v' r' (k.stored o).0)
          (record {
            denied_is = (same o).0;
            named_is = (same o).1;
            subject_is = (same o).2;
            terms_are = t.terms_are;
            count_is = t.count_is;
            seen_length = t.seen_length;
            seen_is = t.seen_is;
            constants_is = t.constants_is;
            pool_is = t.pool_is;
            nodes_is = t.nodes_is;
            nodes_are = t.nodes_are;
          })

-- A not stands before the goal.
pub keeps-denied : (gs : List Goal) (b : Body) (n : ℕ) (cs ns : List ℕ) → Keeps (idle gs) b cs ns → KeepsAll (account_of gs true false 0 []) (body_step 2 b n cs ns)
keeps-denied gs b n cs ns k =
    keeps-marked gs [] false false 0 b cs ns k true false 0 true b.named b.subject (λ o. let t = (k.stored o).1 in (refl, t.named_is, t.subject_is))

-- The number is the goal's relation, or the variable before its =.
pub keeps-subject : (gs : List Goal) (d : Bool) (r : ℕ) (b : Body) (cs ns : List ℕ) → Keeps (account_of gs d false 0 []) b cs ns
    → KeepsAll (account_of gs d false r []) (body_step 3 b (capped r) cs ns)
keeps-subject gs d r b cs ns k =
    keeps-marked gs [] d false 0 b cs ns k d false r b.denied b.named (capped r) (λ o. let t = (k.stored o).1 in (t.denied_is, t.named_is, refl))

-- An X stands before the number that follows.
pub keeps-named : (gs : List Goal) (d : Bool) (r : ℕ) (ts : List Term) (b : Body) (n : ℕ) (cs ns : List ℕ) → Keeps (account_of gs d false r ts) b cs ns
    → KeepsAll (account_of gs d true r ts) (body_step 4 b n cs ns)
keeps-named gs d r ts b n cs ns k =
    keeps-marked gs ts d false r b cs ns k d true r b.denied true b.subject (λ o. let t = (k.stored o).1 in (t.denied_is, refl, t.subject_is))
