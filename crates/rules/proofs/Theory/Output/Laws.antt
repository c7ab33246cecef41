-- Laws of the output: the line of a refusal by its digits, and what is written at the front of the buffer is what `print` leaves.
use Rattle.std.specs.Prelude.{ℕ, ◌≤◌, ◌<◌, ◌^◌, ◌≡◌, List, [], ◌∷◌, ◌++◌, length, take, drop}
use Rattle.std.proofs.Common.{arith, sym, ap, ◌∙◌, append_assoc}
use Rattle.calculus.specs.Decimal.{digits}
use Rattle.calculus.proofs.Theory.Decimal.Laws.{digits-enough}
use Rattle.causes.specs.Causes.{Done, Refused}
use Rattle.query.specs.Code.Writing.{wrote}
use Rattle.query.proofs.Theory.Code.Writing.Laws.{wrote-end, wrote-front}
use Rattle.rules.specs.Reply.{Packing, PackReply}
use Rattle.rules.specs.Output.{word_refused, refusal_line, output, rule_output, printed, PrintReply}

-- ---- the line of a refusal

-- The word, and a number of at most three digits between spaces.
abbrev pub line_front : ℕ → List ℕ
line_front n = ((word_refused ++ (32 ∷ [])) ++ digits 3 n) ++ (32 ∷ [])

-- A place of at most twenty digits comes after it, and the line feed.
pub line-digits : (n p : ℕ) → n < 10 ^ 3 → p < 10 ^ 20 → (line_front n ++ digits 20 p) ++ (10 ∷ []) ≡ refusal_line n p
line-digits n p h l =
    let word = word_refused ++ (32 ∷ []) in
    append_assoc (line_front n) (digits 20 p) (10 ∷ [])
    ∙ append_assoc (word ++ digits 3 n) (32 ∷ []) (digits 20 p ++ (10 ∷ []))
    ∙ (λ i. word ++ (digits-enough 2 n h i ++ (32 ∷ (digits-enough 19 p l i ++ (10 ∷ [])))))

-- ---- the whole output

module _ (bs : List ℕ) (q : Packing) (k : PackReply bs q) (out : List ℕ) where
  -- A text that is the output, written at the front of a buffer that has room for it.
  wrote-printed : (t after : List ℕ) (r : ℕ) → rule_output q ≡ t → r ≤ length out → (r, after) ≡ wrote 0 t out → PrintReply bs out r after
  wrote-printed t after r e h w P =
      w
      ∙ wrote-front t out (omega (arith, h, wrote-end 0 r t out after w))
      ∙ ap (λ u. (length u, u ++ drop (length u) out)) (sym e)
      ∙ ap (λ p. printed p out) (k P)

  pub printed-refused : (n p r : ℕ) (after : List ℕ) → q.answer ≡ Refused n p → r ≤ length out → (r, after) ≡ wrote 0 (refusal_line n p) out → PrintReply bs out r after
  printed-refused n p r after a h w = wrote-printed (refusal_line n p) after r (ap (λ b. output b (take q.size q.bytes)) a) h w

  pub printed-packed : (r : ℕ) (after : List ℕ) → q.answer ≡ Done → r ≤ length out → (r, after) ≡ wrote 0 (take q.size q.bytes) out → PrintReply bs out r after
  printed-packed r after a h w = wrote-printed (take q.size q.bytes) after r (ap (λ b. output b (take q.size q.bytes)) a) h w
