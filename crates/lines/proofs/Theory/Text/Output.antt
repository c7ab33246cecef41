-- The whole output, from what the list call told of an input with room for 4,096 numbers.
use Rattle.std.specs.Prelude.{ℕ, ◌*◌, ◌-◌, ◌≤◌, ◌≡◌, true, false, List, [], ◌∷◌, ◌++◌, length, take, drop, replicate}
use Rattle.std.proofs.Common.{arith, sym, ap, ◌∙◌}
use Rattle.std.proofs.Math.Path.{subst⁻¹}
use Rattle.std.proofs.Math.Seq.{take-append_seam}
use Rattle.calculus.specs.Sets.{union_of}
use Rattle.causes.specs.Causes.{Answer, Done, Refused, first_cause}
use Rattle.calculus.specs.Rows.{numbers}
use Rattle.answer.specs.Code.Listing.{cut}
use Rattle.answer.proofs.Theory.Code.Listing.Cut.{cut-numbers}
use Rattle.packed.specs.Packed.{Listing, query_read, result_in, list_checks, listing_of}
use Rattle.packed.proofs.Theory.Packed.Told.{columns_in, Told, told-refused, told-done, told-safe, told-columns, told-few-columns, told-endless, told-rows}
use Rattle.lines.specs.Text.{room, line, word_refused, word_row, word_rows, word_endless, answer_text, head_text, reply_text, text_of}

module _ (bs buffer : List ℕ) (h : length buffer ≡ room) (l : Listing) (after : List ℕ) (e : (l, after) ≡ listing_of bs buffer) where
  outcome : (a : Answer) → first_cause (list_checks bs (length buffer)) ≡ a → text_of bs ≡ reply_text a (query_read bs) (result_in bs)
  outcome a c = ap (λ b. reply_text b (query_read bs) (result_in bs)) (ap (λ n. first_cause (list_checks bs n)) (sym h) ∙ c)

  pub text-refused : (n p : ℕ) → l.answer ≡ Refused n p → text_of bs ≡ line word_refused (n ∷ p ∷ [])
  text-refused n p g = outcome (Refused n p) (told-refused bs buffer l after e n p g).0

  -- The first two lines as they are printed.
  abbrev front : List ℕ
  front = head_text l.safe (take l.columns.count l.columns.variables)

  module _ (g : l.answer ≡ Done) where
    count_is : l.columns.count ≡ length (columns_in bs)
    count_is = ap (λ c. c.count) (told-columns bs buffer l after e g)

    variables_are : take l.columns.count l.columns.variables ≡ columns_in bs
    variables_are = ap (λ c. take c.count c.variables) (told-columns bs buffer l after e g) ∙ take-append_seam (columns_in bs) (replicate (4 - length (columns_in bs)) 0)

    pub few_columns : l.columns.count ≤ 4
    few_columns = subst⁻¹ (λ n. n ≤ 4) count_is (told-few-columns bs buffer l after e g)

    text-done : text_of bs ≡ front ++ answer_text (result_in bs)
    text-done = outcome Done (told-done bs buffer l after e g) ∙ sym (λ i. head_text (told-safe bs buffer l after e g i) (variables_are i) ++ answer_text (result_in bs))

    pub text-endless : l.endless ≡ true → text_of bs ≡ front ++ line word_endless []
    text-endless t = text-done ∙ ap (λ f. front ++ answer_text f) (told-endless bs buffer l after e g t).0

    module _ (t : l.endless ≡ false) where
      abbrev told : Told bs buffer l after
      told = told-rows bs buffer l after e g t

      -- There is room for the rows.
      pub rows_fit : (l.rows ≤ 4097) × (l.rows * l.columns.count ≤ 4096)
      rows_fit =
          let p : l.rows * l.columns.count ≡ length told.rows * length (columns_in bs) = λ i. told.counted i * count_is i in
          (omega (arith, told.counted, told.few, h), omega (arith, p, told.fitting, h))

      cut-rows : cut l.columns.count l.rows after ≡ told.rows
      cut-rows =
          (λ i. cut (count_is i) (told.counted i) (told.written i))
          ∙ cut-numbers (length (columns_in bs)) told.rows (drop (length (numbers told.rows)) buffer) told.wide

      pub text-rows : text_of bs ≡ front ++ (union_of (line word_row) (cut l.columns.count l.rows after) ++ line word_rows (l.rows ∷ []))
      text-rows =
          text-done
          ∙ ap (λ f. front ++ answer_text f) told.answered
          ∙ sym (λ i. front ++ (union_of (line word_row) (cut-rows i) ++ line word_rows (told.counted i ∷ [])))
