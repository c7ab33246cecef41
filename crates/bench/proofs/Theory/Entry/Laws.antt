-- What is found, and what a change comes to, over equal stores, lists and records.
use Rattle.std.specs.Prelude.{◌≡◌, Bool, List, ℕ, ◌+◌, ◌*◌, ◌<◌, true, false, cond}
use Rattle.std.proofs.Common.{ap, sym, ◌∙◌}
use Rattle.tables.specs.declared.Record.{Record}
use Rattle.tables.specs.declared.Store.{Store}
use Rattle.answer.specs.Reply.{found_of, Found}
use Rattle.standing.specs.declared.View.{View}
use Rattle.standing.specs.Change.{change_of, Change}
use Rattle.standing.specs.Checks.{action_of}
use Rattle.std.proofs.Math.Path.{subst⁻¹}
use Rattle.causes.specs.Causes.{Done, Refused, place}
use Rattle.causes.proofs.Theory.Causes.Laws.{refused-place}
use Rattle.query.specs.Reading.{max_nodes}
use Rattle.bench.specs.Entry.{refusal, code, coded, change_code, coded_change}

-- What is found over equal stores.
pub found-over : {s t : Store} → s ≡ t → (bs : List ℕ) (wanted : Bool) (out : List ℕ) → found_of s bs wanted out ≡ found_of t bs wanted out
found-over e bs wanted out = ap (λ u. found_of u bs wanted out) e

-- What a change of equal stores and lists by equal records comes to.
pub change-over : {s t : Store} {v w : View} {r q : Record} → s ≡ t → v ≡ w → r ≡ q → (removes : Bool) (bs first second : List ℕ) → change_of (action_of removes r) s v bs first second ≡ change_of (action_of removes q) t w bs first second
change-over a b c removes bs first second = λ i. change_of (action_of removes (c i)) (a i) (b i) bs first second

-- ---- laws that stand as they stood

module _ {f : Found} {out : List ℕ} {x : Found × List ℕ} (e : (f, out) ≡ x) where
  pub coded-refused : (n p m : ℕ) → f.answer ≡ Refused n p → m ≡ refusal n p → (m, out) ≡ coded x
  coded-refused n p m a r = ap (λ k. (k, out)) r ∙ ap (λ b. (code b f.endless f.rows, out)) (sym a) ∙ ap coded e

  -- A refusal's place is that of the reply.
  pub found_at : place x.0.answer < max_nodes → (n p : ℕ) → f.answer ≡ Refused n p → p < max_nodes
  found_at h n p a = refused-place f.answer n p a (subst⁻¹ (λ q. place q.0.answer < max_nodes) e h)

  pub coded-endless : f.answer ≡ Done → f.endless ≡ true → (9223372036854775808, out) ≡ coded x
  coded-endless a b = ap (λ c. (cond c 9223372036854775808 f.rows, out)) (sym b) ∙ ap (λ b. (code b f.endless f.rows, out)) (sym a) ∙ ap coded e

  pub coded-rows : f.answer ≡ Done → f.endless ≡ false → (f.rows, out) ≡ coded x
  coded-rows a b = ap (λ c. (cond c 9223372036854775808 f.rows, out)) (sym b) ∙ ap (λ b. (code b f.endless f.rows, out)) (sym a) ∙ ap coded e

module _ {c : Change} {out : List ℕ × List ℕ} {x : Change × (List ℕ × List ℕ)} (e : (c, out) ≡ x) where
  pub change-refused : (n p m : ℕ) → c.answer ≡ Refused n p → m ≡ refusal n p → (m, out) ≡ coded_change x
  change-refused n p m a r = ap (λ k. (k, out)) r ∙ ap (λ b. (change_code b c.joined c.left, out)) (sym a) ∙ ap coded_change e

  pub change-at : place x.0.answer < max_nodes → (n p : ℕ) → c.answer ≡ Refused n p → p < max_nodes
  change-at h n p a = refused-place c.answer n p a (subst⁻¹ (λ q. place q.0.answer < max_nodes) e h)

  pub change-done : c.answer ≡ Done → (c.joined + 65536 * c.left, out) ≡ coded_change x
  change-done a = ap (λ b. (change_code b c.joined c.left, out)) (sym a) ∙ ap coded_change e
