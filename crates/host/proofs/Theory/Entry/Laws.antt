-- Laws of the entries: the replies by what was found.
use Rattle.std.specs.Prelude.{ℕ, ◌+◌, ◌/◌, ◌%◌, ◌<◌, ◌^◌, ◌≤◌, ◌≡◌, refl, Bool, true, false, ◌⊎◌, List, [], ◌∷◌, length, get_or}
use Rattle.std.proofs.Common.{arith, sym, ap, subst, ◌∙◌, inl, inr}
use Rattle.std.proofs.Math.Path.{subst⁻¹}
use Rattle.calculus.specs.Lists.{padded}
use Rattle.calculus.specs.Rows.{Row, Result, endless, listed}
use Rattle.causes.specs.Causes.{Answer, Done, Refused, first_cause, number, place}
use Rattle.causes.proofs.Theory.Causes.Laws.{refused-place}
use Rattle.query.specs.declared.Query.{Query}
use Rattle.query.specs.Reading.{max_nodes, max_constants, constants_of, nodes_of, pool}
use Rattle.query.proofs.Theory.Accepted.Laws.{read_done, pool_of, reading-accepted}
use Rattle.verdict.specs.Verdict.{Verdict, judged}
use Rattle.verdict.proofs.Theory.Form.Laws.{form-accepted}
use Rattle.answer.specs.Reply.{front_bytes}
use Rattle.packed.specs.Packed.{Listing, widths_in, query_in, query_read, input_checks, judged_reply, judged_of, result_in, list_checks, listing_reply, byte_listing_of}
use Rattle.packed.proofs.Theory.Packed.Laws.{query-accepted, input-few}
use Rattle.packed.proofs.Theory.Packed.Places.{judged-place, listing-place, listing-refused}
use Rattle.packed.proofs.Theory.Packed.Told.{rows_fit}
use Rattle.rules.specs.Reply.{Packing, packing, PackReply}
use Rattle.rules.proofs.Theory.Grammar.Laws.{parse}
use Rattle.rules.proofs.Theory.Reply.Laws.{Answered, packs, refuses, packing-answered}
use Rattle.host.specs.Entry.{code, code_endless, answer_refusal, verdict_bytes, verdict_reply, verdict_entry, room_in, answer_reply, answer_entry, rule_refusal, rule_reply, RuleEntry}
use Rattle.host.specs.Code.Entry.{Writable}

-- ---- the verdict's reply, by its answer

module _ (bs out : List ℕ) (v : Verdict) (e : v ≡ judged_of bs) where
  reply-is : (a : Answer) → v.answer ≡ a → verdict_reply a v out ≡ verdict_entry bs out
  reply-is a f = ap (λ b. verdict_reply b v out) (sym f) ∙ ap (λ w. verdict_reply w.answer w out) e

  pub verdict-refused : (n p k : ℕ) → v.answer ≡ Refused n p → k ≡ code (Refused n p) → (2 ^ 31 + k, out) ≡ verdict_entry bs out
  verdict-refused n p k f g = ap (λ z. (2 ^ 31 + z, out)) g ∙ reply-is (Refused n p) f

  -- The place of a refusal is a node's number, or 0.
  pub verdict-place : (n p : ℕ) → v.answer ≡ Refused n p → p < max_nodes
  verdict-place n p f = refused-place v.answer n p f (subst⁻¹ (λ w. place w.answer < max_nodes) e (judged-place bs))

  pub verdict-written : (o : List ℕ) → v.answer ≡ Done → o ≡ verdict_bytes v → (0, o) ≡ verdict_entry bs out
  verdict-written o f g = ap (λ x. (0, x)) g ∙ reply-is Done f

-- The verdict on an input that is accepted is within the limits, its constants being 32-bit numbers.
judged-answer : (a : Answer) (q : Query) → (judged_reply a q).answer ≡ a
judged-answer Done q = refl
judged-answer (Refused n p) q = refl

module _ (bs : List ℕ) (done : (judged_of bs).answer ≡ Done) where
  unmet : first_cause (input_checks bs) ≡ Done
  unmet = sym (judged-answer (first_cause (input_checks bs)) (query_read bs)) ∙ done

  judged-is : judged_of bs ≡ judged (query_read bs)
  judged-is = ap (λ a. judged_reply a (query_read bs)) unmet

  -- The form has the constants of the query as read.
  constants-kept : (judged_of bs).form.constants ≡ (query_read bs).constants
  constants-kept =
      let r = read_done (widths_in bs) (query_in bs) (query-accepted bs unmet) in
      let cs = constants_of (query_in bs) in let ns = nodes_of (query_in bs) in
      ap (λ v. v.form.constants) judged-is
      ∙ ap (λ x. padded max_constants 0 (pool x.query)) r
      ∙ ap (padded max_constants 0) (pool_of cs ns)
      ∙ ap (λ x. x.query.constants) (sym r)

  pub judged-writable : ((i : ℕ) → get_or (judged_of bs).form.constants i 0 < 2 ^ 32) → Writable (judged_of bs)
  judged-writable small =
      let a = form-accepted (widths_in bs) (query_read bs) (reading-accepted (widths_in bs) (query_in bs) (subst (λ cs. (i : ℕ) → get_or cs i 0 < 2 ^ 32) constants-kept small) (query-accepted bs unmet)) in
      subst⁻¹ Writable judged-is (input-few bs unmet, (a.few_nodes, a.few_constants))

pub verdict-writable : (bs : List ℕ) (v : Verdict) → v ≡ judged_of bs → ((i : ℕ) → get_or v.form.constants i 0 < 2 ^ 32) → v.answer ≡ Done → Writable v
verdict-writable bs v e small done = subst⁻¹ Writable e (judged-writable bs (ap (λ w. w.answer) (sym e) ∙ done) (subst (λ w. (i : ℕ) → get_or w.form.constants i 0 < 2 ^ 32) e small))

-- ---- the answers' reply, by what is told

-- What the list call tells, as one number.
abbrev told_code : Answer → Bool → ℕ → ℕ
told_code Done true rows = code_endless
told_code Done false rows = rows
told_code (Refused n p) b rows = answer_refusal (Refused n p)

abbrev coded : Listing × List ℕ → ℕ × List ℕ
coded reply = (told_code reply.0.answer reply.0.endless reply.0.rows, reply.1)

coded-reply : (a : Answer) (q : Query) (found : Result) (out : List ℕ) → coded (listing_reply front_bytes a q found out) ≡ answer_reply a found out
coded-reply Done q endless out = refl
coded-reply Done q (listed rows) out = refl
coded-reply (Refused n p) q found out = refl

module _ (bs out after : List ℕ) (l : Listing) (e : (l, after) ≡ byte_listing_of bs out) where
  told : coded (l, after) ≡ answer_entry bs out
  told = ap coded e ∙ coded-reply (first_cause (list_checks bs (room_in (length out)))) (query_read bs) (result_in bs) out

  pub answer-refused : (n p k : ℕ) → l.answer ≡ Refused n p → k ≡ code (Refused n p) → (code_endless + k, after) ≡ answer_entry bs out
  answer-refused n p k a f = ap (λ z. (code_endless + z, after)) f ∙ ap (λ c. (told_code c l.endless l.rows, after)) (sym a) ∙ told

  pub answer-place : (n p : ℕ) → l.answer ≡ Refused n p → p < max_nodes
  answer-place = listing-refused front_bytes (room_in (length out)) bs out l after e

  pub answer-endless : l.answer ≡ Done → l.endless ≡ true → (code_endless, after) ≡ answer_entry bs out
  answer-endless a t = (λ i. (told_code (sym a i) (sym t i) l.rows, after)) ∙ told

  pub answer-listed : l.answer ≡ Done → l.endless ≡ false → (l.rows, after) ≡ answer_entry bs out
  answer-listed a f = (λ i. (told_code (sym a i) (sym f i) l.rows, after)) ∙ told

-- Number and place can be read off the number that a refusal returns, the place being below `max_nodes`.
code_read : (a : Answer) → place a < max_nodes → (code a / 256 ≡ number a) × (code a % 256 ≡ place a)
code_read a h = (omega arith, omega arith)

pub verdict-code : (bs : List ℕ) → let a = (judged_of bs).answer in (code a / 256 ≡ number a) × (code a % 256 ≡ place a)
verdict-code bs = code_read (judged_of bs).answer (judged-place bs)

pub answer-code : (bs out : List ℕ) → let a = (byte_listing_of bs out).0.answer in (code a / 256 ≡ number a) × (code a % 256 ≡ place a)
answer-code bs out = code_read (byte_listing_of bs out).0.answer (listing-place front_bytes (room_in (length out)) bs out)

-- A number of rows is below 2^63, so it tells neither an endless answer nor a refusal: the rows fit into the output, whose length is a 64-bit number.
pub rows_below-endless : (bs out : List ℕ) → length out < 2 ^ 64 → first_cause (list_checks bs (room_in (length out))) ≡ Done → (rows : List Row) → result_in bs ≡ listed rows → length rows < code_endless
rows_below-endless bs out s done rows e = omega (arith, s, (rows_fit bs (room_in (length out)) done rows e).2)

-- ---- the rules

-- What the rules' entry returns and leaves, by what packing answers.
module _ (bs out place : List ℕ) (r : Packing) (e : PackReply bs r) where
  as-packed : RuleEntry bs out place (rule_reply r.answer r out place)
  as-packed P = ap (λ q. rule_reply q.answer q out place) (e P)

  pub rule-refused : (n p : ℕ) → r.answer ≡ Refused n p → RuleEntry bs out place (rule_refusal n, (out, p ∷ []))
  rule-refused n p a P = ap (λ b. rule_reply b r out place) (sym a) ∙ as-packed P

  pub rule-packed : r.answer ≡ Done → RuleEntry bs out place (r.size, (r.bytes, place))
  rule-packed a P = ap (λ b. rule_reply b r out place) (sym a) ∙ as-packed P

-- The number that the rules' entry returns is that of a packed query's bytes, or of a refusal with 20, and tells which.
pub rule-code : (bs out place : List ℕ) (r : ℕ × (List ℕ × List ℕ)) → RuleEntry bs out place r → ((6 ≤ r.0) × (r.0 ≤ 322)) ⊎ (r.0 ≡ rule_refusal 20)
rule-code bs out place r f = go (packing (parse bs)) (f (parse bs)) (packing-answered bs (parse bs))
  where
    go : (p : Packing) → r ≡ rule_reply p.answer p out place → Answered p → ((6 ≤ r.0) × (r.0 ≤ 322)) ⊎ (r.0 ≡ rule_refusal 20)
    go p g (packs d l h) =
        let z : r.0 ≡ p.size = ap (λ q. q.0) (g ∙ ap (λ a. rule_reply a p out place) d) in
        inl (omega arith, omega arith)
    go p g (refuses n d z) = inr (ap (λ q. q.0) (g ∙ ap (λ a. rule_reply a p out place) d))
