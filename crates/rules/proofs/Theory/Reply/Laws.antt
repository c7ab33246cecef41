-- Laws of the replies over rule text: what running the automaton tells is the reply, and a packed query is read as its rule.
use Rattle.std.specs.Prelude.{ℕ, ◌≤◌, ◌<◌, ◌-◌, ◌≡◌, refl, ◌↔◌, Bool, true, false, cond, List, length, get_or, take, replicate}
use Rattle.std.proofs.Common.{sym, ap, ◌∙◌, arith}
use Rattle.std.proofs.Math.Path.{subst⁻¹}
use Rattle.std.proofs.Math.Option.{none, some}
use Rattle.std.proofs.Math.Seq.{take-append_seam}
use Rattle.calculus.specs.Lists.{padded}
use Rattle.calculus.specs.Formula.{Fmla}
use Rattle.calculus.specs.Satisfaction.{Pool}
use Rattle.calculus.specs.Generators.{columns}
use Rattle.calculus.specs.Rows.{RowSat}
use Rattle.causes.specs.Causes.{Done, Refused}
use Rattle.query.proofs.Theory.Packing.Laws.{size-positive}
use Rattle.query.specs.Reading.{Reading, read_of, refusal}
use Rattle.rules.specs.Reply.{Packing, max_bytes, bytes_of, refused, packed, packing, reading, PackReply, ReadReply, Means, rule_packing}
use Rattle.rules.specs.Grammar.{Rule, written, Leaves, Parse, parsed, outside}
use Rattle.rules.proofs.Theory.Grammar.Laws.{written_one, leaves-one, stopped-leaves, stopped-no-rule, early-leaves, early-no-rule, parse}
use Rattle.rules.specs.Meaning.{head, RuleRow, formula_of, overstepped}
use Rattle.rules.proofs.Theory.Meaning.Variables.{rule-columns}
use Rattle.rules.proofs.Theory.Meaning.Rows.{rule-row}
use Rattle.rules.proofs.Theory.Meaning.Packing.{bytes-short, length-bytes-of, query-constants, query-formula, rule-accepted}
use Rattle.rules.specs.Code.Automaton.{State, start, done, step, run}
use Rattle.rules.proofs.Theory.Code.Automaton.Spelling.{run-spelled}

-- ---- what packing answers

-- Text outside the grammar is refused at its place.
outside-reply : (bs : List ℕ) (i : ℕ) → ((R : Rule) → ¬ (written R ≡ bs)) → Leaves bs i → (P : Parse bs) → packing P ≡ refused i
outside-reply bs i n l (parsed R e) = absurd (n R e)
outside-reply bs i n l (outside q m k) = ap refused (leaves-one bs q i k l)

-- The reading stops at place i.
pub stopped-reply : (bs : List ℕ) (i : ℕ) (s : State) → run (some start) (take i bs) ≡ some s → i < length bs → step s (get_or bs i 0) ≡ none → (P : Parse bs) → packing P ≡ refused i
stopped-reply bs i s e h f P = outside-reply bs i (stopped-no-rule bs i s e h f) (stopped-leaves bs i s e h f) P

-- The text ends before a rule does.
pub early-reply : (bs : List ℕ) (s : State) → run (some start) bs ≡ some s → ((R : Rule) → ¬ (s ≡ done R)) → (P : Parse bs) → packing P ≡ refused (length bs)
early-reply bs s e n P = outside-reply bs (length bs) (early-no-rule bs s e n) (early-leaves bs s e) P

-- The text leads to a rule.
pub rule_reply : (bs : List ℕ) (R : Rule) → run (some start) bs ≡ some (done R) → (P : Parse bs) → packing P ≡ rule_packing R (length bs)
rule_reply bs R e (parsed S f) = ap (λ T. rule_packing T (length bs)) (written_one S R (f ∙ sym (run-spelled bs (done R) e)))
rule_reply bs R e (outside q n l) = absurd (n R (run-spelled bs (done R) e))

-- ---- what reading answers, by what packing answers

not_done : {n p : ℕ} → ¬ (Done ≡ Refused n p)
not_done e = let z : ◌≡◌ {A = ℕ} 0 1 = cc in absurd (omega arith)

-- A text that is not packed is not read, under the same number and at the same place.
pub packing-refuses : (ws bs : List ℕ) (P : Parse bs) (n p : ℕ) → (packing P).answer ≡ Refused n p → reading ws P ≡ refusal n p
packing-refuses ws bs (parsed R f) n p e = go (overstepped R) e
  where
    go : (b : Bool) → (cond b (refused (length bs)) (packed R)).answer ≡ Refused n p → cond b (refusal 20 (length bs)) (read_of ws (bytes_of R)) ≡ refusal n p
    go true r = let m : 20 ≡ n = cc in let q : length bs ≡ p = cc in λ i. refusal (m i) (q i)
    go false r = absurd (not_done r)
packing-refuses ws bs (outside q k l) n p e = let m : 20 ≡ n = cc in let z : q ≡ p = cc in λ i. refusal (m i) (z i)

-- A text that is packed is read as the packed bytes.
pub packing-reads : (ws bs : List ℕ) (P : Parse bs) → (packing P).answer ≡ Done → reading ws P ≡ read_of ws (take (packing P).size (packing P).bytes)
packing-reads ws bs (parsed R f) e = go (overstepped R) e
  where
    go : (b : Bool) → (cond b (refused (length bs)) (packed R)).answer ≡ Done → cond b (refusal 20 (length bs)) (read_of ws (bytes_of R)) ≡ read_of ws (take (cond b (refused (length bs)) (packed R)).size (cond b (refused (length bs)) (packed R)).bytes)
    go true r = absurd (not_done (sym r))
    go false r = ap (read_of ws) (sym (take-append_seam (bytes_of R) (replicate (max_bytes - length (bytes_of R)) 0)))
packing-reads ws bs (outside i n l) e = absurd (not_done (sym e))

-- A text is packed into 6 to 322 bytes, or refused with 20 and no byte.
pub data Answered (r : Packing) : Type 0 where
  packs : r.answer ≡ Done → 6 ≤ r.size → r.size ≤ max_bytes → Answered r
  refuses : (p : ℕ) → r.answer ≡ Refused 20 p → r.size ≡ 0 → Answered r

pub packing-answered : (bs : List ℕ) (P : Parse bs) → Answered (packing P)
packing-answered bs (parsed R f) = go (overstepped R) refl
  where
    go : (b : Bool) → overstepped R ≡ b → Answered (cond b (refused (length bs)) (packed R))
    go true e = refuses (length bs) refl refl
    go false e = packs refl (omega (arith, length-bytes-of R, size-positive (formula_of R))) (bytes-short R e)
packing-answered bs (outside q k l) = refuses q refl refl

-- ---- what a caller of packing knows of its reply

module _ (bs : List ℕ) (r : Packing) (e : PackReply bs r) where
  pub reply-answered : Answered r
  reply-answered = subst⁻¹ Answered (e (parse bs)) (packing-answered bs (parse bs))

  pub reply-short : r.size ≤ max_bytes
  reply-short = go reply-answered
    where
      go : Answered r → r.size ≤ max_bytes
      go (packs d l h) = h
      go (refuses p d z) = omega arith

  pub reply-refuses : (ws : List ℕ) (n p : ℕ) → r.answer ≡ Refused n p → (q : Reading) → q ≡ refusal n p → ReadReply ws bs q
  reply-refuses ws n p f q g P = g ∙ sym (packing-refuses ws bs P n p (ap (λ c. c.answer) (sym (e P)) ∙ f))

  pub reply-reads : (ws : List ℕ) → r.answer ≡ Done → (q : Reading) → q ≡ read_of ws (take r.size r.bytes) → ReadReply ws bs q
  reply-reads ws f q g P =
      g ∙ ap (λ c. read_of ws (take c.size c.bytes)) (e P) ∙ sym (packing-reads ws bs P (ap (λ c. c.answer) (sym (e P)) ∙ f))

  -- The contract says the whole reply.
  pub reply-one : (q : Packing) → PackReply bs q → r ≡ q
  reply-one q f = e (parse bs) ∙ sym (f (parse bs))

-- The reply to the text of a rule within the limits means the rule.
packed-means : (R : Rule) → overstepped R ≡ false → Means R (packed R)
packed-means R o =
    let whole : take (length (bytes_of R)) (padded max_bytes 0 (bytes_of R)) ≡ bytes_of R = take-append_seam (bytes_of R) (replicate (max_bytes - length (bytes_of R)) 0) in
    record {
      constants_are = query-constants R;
      formula_is = query-formula R o;
      columns_are = ap columns (query-formula R o) ∙ rule-columns R o;
      rows_are = λ D w. subst⁻¹ (λ (q : Pool × Fmla). RowSat q.0 D q.1 (head R) w ↔ RuleRow D R w) (λ i. (query-constants R i, query-formula R o i)) (rule-row R o D w);
      reads_as = λ ws t a. ap (read_of ws) whole ∙ rule-accepted R o ws t a;
    }

-- A text that is packed is the text of a rule, and the reply means that rule.
pub reply-means : (bs : List ℕ) (r : Packing) → PackReply bs r → r.answer ≡ Done → (R : Rule) × (written R ≡ bs) × Means R r
reply-means bs r e d = go (parse bs) (e (parse bs))
  where
    by-rule : (R : Rule) → written R ≡ bs → (b : Bool) → overstepped R ≡ b → r ≡ cond b (refused (length bs)) (packed R) → (S : Rule) × (written S ≡ bs) × Means S r
    by-rule R f true o g = absurd (not_done (sym d ∙ ap (λ q. q.answer) g))
    by-rule R f false o g = (R, f, subst⁻¹ (Means R) g (packed-means R o))

    go : (P : Parse bs) → r ≡ packing P → (R : Rule) × (written R ≡ bs) × Means R r
    go (parsed R f) g = by-rule R f (overstepped R) refl g
    go (outside q n l) g = absurd (not_done (sym d ∙ ap (λ c. c.answer) g))
