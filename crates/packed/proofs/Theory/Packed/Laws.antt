-- Laws of the packed input: what it comes to at each cause that the code meets in turn, and what an accepted input promises. What the list's reply tells is in
-- Packed/Told.antt.
use Rattle.std.specs.Prelude.{ℕ, ◌≤◌, ◌<◌, ◌^◌, ◌≡◌, refl, Bool, true, false, not, List, [], ◌∷◌, ◌++◌, length, get_or, T, Some}
use Rattle.std.proofs.Common.{sym, ap, ◌∙◌}
use Rattle.std.proofs.Math.Path.{subst⁻¹}
use Rattle.calculus.specs.Lists.{padded}
use Rattle.calculus.specs.Order.{insert}
use Rattle.calculus.proofs.Theory.Reflects.Laws.{reflects, confirmed-by, reflects-and, reflects-leb, reflects-T, reflects-true}
use Rattle.calculus.specs.Generators.{columns, verdict, safe}
use Rattle.calculus.specs.Rows.{Result, endless, listed}
use Rattle.causes.specs.Causes.{Answer, Done, Refused, clear, met, Check, check, first_cause, when, widths_fit}
use Rattle.causes.proofs.Theory.Causes.Laws.{then-done, then-refused, first_done, later-done, first-passed}
use Rattle.tables.specs.declared.Record.{Record}
use Rattle.tables.specs.Change.{Changed}
use Rattle.tables.specs.Records.{record_below}
use Rattle.tables.proofs.Theory.Store.Laws.{reflects-layout}
use Rattle.tables.specs.Fill.{unless_refused, fill_checks, fill_from, fill_reply}
use Rattle.tables.proofs.Theory.Fill.Laws.{fill-widths, fill-layout}
use Rattle.query.specs.declared.Query.{Query}
use Rattle.query.specs.declared.Columns.{Columns}
use Rattle.query.specs.Reading.{max_constants, constants_of, nodes_of, read_checks, read_reply, read_of, columns_of, formula}
use Rattle.query.specs.Accepted.{Accepted}
use Rattle.query.proofs.Theory.Accepted.Laws.{read-pool, read-few, read-cause, read-widths, read-columns, reading-accepted}
use Rattle.verdict.specs.Form.{form_of}
use Rattle.verdict.specs.Verdict.{judged, refusal as verdict_refusal}
use Rattle.answer.specs.Reply.{row_checks, Writing, reply_by}
use Rattle.answer.specs.Code.Reply.{Answerable, evaluated_by}
use Rattle.packed.specs.declared.part.Head.{Head}
use Rattle.packed.specs.Code.Packed.{Input, extent_by, extent_of, extent_in, refusal, input_reply, input_of, listing_with}
use Rattle.packed.specs.Packed.{head_length, head_in, widths_in, count_in, start, records_in, query_in, is_whole, record_checks, input_checks, store_in, query_read, judged_reply, judged_of, result_in, list_checks, declined, listing_reply, listing_in}

-- ---- the parts

-- A whole input has at most 8,192 bytes, and its head and records.
pub whole-lengths : (bs : List ℕ) → is_whole bs ≡ true → (length bs ≤ 8192) × (head_length ≤ length bs) × (start (count_in bs) ≤ length bs)
whole-lengths bs w =
    let h = confirmed-by w (reflects-and (reflects-and (reflects-leb (length bs) 8192) (reflects-leb head_length (length bs))) (reflects-leb (start (count_in bs)) (length bs))) in
    (h.0.0, h.0.1, h.1)

-- How far it reaches says whether it is whole, and then what its head holds.
extent_by-whole : (b : Bool) (h : Head) → (extent_by b h).whole ≡ b
extent_by-whole true h = refl
extent_by-whole false h = refl

pub extent-whole : (bs : List ℕ) → (extent_of bs).whole ≡ is_whole bs
extent-whole bs = extent_by-whole (is_whole bs) (head_in bs)

pub extent-head : (bs : List ℕ) → is_whole bs ≡ true → (extent_of bs).head ≡ head_in bs
extent-head bs w = ap (λ b. (extent_by b (head_in bs)).head) w

-- The same, by what the code hands back.
pub extent-some : (bs : List ℕ) (h : Head) → extent_in (Some h) ≡ extent_of bs → (is_whole bs ≡ true) × (h ≡ head_in bs)
extent-some bs h e = let w = sym (extent-whole bs) ∙ ap (λ x. x.whole) (sym e) in (w, ap (λ x. x.head) e ∙ extent-head bs w)

-- What goes on where checks refuse nothing answers their first cause, or its own.
unless-cause : (cs ds : List Check) (c : Changed) → c.answer ≡ first_cause ds → (unless_refused (first_cause cs) c).answer ≡ first_cause (cs ++ ds)
unless-cause [] ds c e = e
unless-cause (check n clear ∷ cs) ds c e = unless-cause cs ds c e
unless-cause (check n (met p) ∷ cs) ds c e = refl

-- The rest of a filling, with the records ps held, answers the first cause of those that are left.
fill_from-answer : (ws : List ℕ) (ps rs : List Record) → (fill_from ws ps rs).answer ≡ first_cause (record_checks ws ps rs)
fill_from-answer ws ps [] = refl
fill_from-answer ws ps (r ∷ rs) =
    let qs : List Record = insert record_below r ps in
    unless-cause (fill_checks ws ps r) (record_checks ws qs rs) (fill_from ws qs rs) (fill_from-answer ws qs rs)

-- Filling answers the first cause of the records in turn.
pub fill-answer : (ws : List ℕ) (rs : List Record) → T (widths_fit ws) → (fill_reply ws rs).answer ≡ first_cause (record_checks ws [] rs)
fill-answer ws rs f =
    unless-cause (check 1 (when (not (widths_fit ws))) ∷ []) (record_checks ws [] rs) (fill_from ws [] rs) (fill_from-answer ws [] rs)
    ∙ ap (λ b. first_cause (check 1 (when (not b)) ∷ record_checks ws [] rs)) (reflects-true (reflects-T (widths_fit ws)) f)

-- ---- the input, cause by cause

-- The checks after cause 2: the query's, then the records'.
abbrev query_checks : List ℕ → List Check
query_checks bs = read_checks (widths_in bs) (query_in bs)

abbrev filling_checks : List ℕ → List Check
filling_checks bs = record_checks (widths_in bs) [] (records_in bs)

module _ (bs : List ℕ) where
  -- The input by the first cause met.
  input-by : (a : Answer) → first_cause (input_checks bs) ≡ a → input_of bs ≡ input_reply a bs
  input-by a e = ap (λ b. input_reply b bs) e

  -- Cause 2 is met or not, and the rest follows.
  whole-decides : (b : Bool) → is_whole bs ≡ b → first_cause (input_checks bs) ≡ first_cause (check 2 (when (not b)) ∷ (query_checks bs ++ filling_checks bs))
  whole-decides b w = ap (λ c. first_cause (check 2 (when (not c)) ∷ (query_checks bs ++ filling_checks bs))) w

  pub input-short : is_whole bs ≡ false → input_of bs ≡ refusal 2 0
  input-short w = input-by (Refused 2 0) (whole-decides false w)

  module _ (w : is_whole bs ≡ true) where
    pub input-unread : (n p : ℕ) → (read_of (widths_in bs) (query_in bs)).answer ≡ Refused n p → input_of bs ≡ refusal n p
    input-unread n p e = input-by (Refused n p) (whole-decides true w ∙ then-refused (query_checks bs) (filling_checks bs) n p (read-cause (widths_in bs) (query_in bs) (Refused n p) e))

    module _ (r : (read_of (widths_in bs) (query_in bs)).answer ≡ Done) where
      -- The records are left.
      records-decide : first_cause (input_checks bs) ≡ (fill_reply (widths_in bs) (records_in bs)).answer
      records-decide =
          whole-decides true w
          ∙ then-done (query_checks bs) (filling_checks bs) (read-cause (widths_in bs) (query_in bs) Done r)
          ∙ sym (fill-answer (widths_in bs) (records_in bs) (read-widths (widths_in bs) (query_in bs) r))

      pub input-unfilled : (n p : ℕ) → (fill_reply (widths_in bs) (records_in bs)).answer ≡ Refused n p → input_of bs ≡ refusal n p
      input-unfilled n p e = input-by (Refused n p) (records-decide ∙ e)

      pub input-filled : (fill_reply (widths_in bs) (records_in bs)).answer ≡ Done → input_of bs ≡ record { answer = Done; store = store_in bs; query = query_read bs; columns = (read_of (widths_in bs) (query_in bs)).columns }
      input-filled e = input-by Done (records-decide ∙ e) ∙ ap with-columns (sym (read-columns (widths_in bs) (query_in bs) r))
        where
          with-columns : Columns → Input
          with-columns cols = record { answer = Done; store = store_in bs; query = query_read bs; columns = cols }

-- ---- what it comes to

input_reply-answer : (a : Answer) (bs : List ℕ) → (input_reply a bs).answer ≡ a
input_reply-answer Done bs = refl
input_reply-answer (Refused n p) bs = refl

judged_reply-answer : (a : Answer) (q : Query) → (judged_reply a q).answer ≡ a
judged_reply-answer Done q = refl
judged_reply-answer (Refused n p) q = refl

-- The list's reply is what was found, with the verdict and the columns beside it.
found-beside : (write : Writing (List ℕ)) (a : Answer) (q : Query) (found : Result) (buffer : List ℕ) → let f = reply_by write a found buffer in listing_reply write a q found buffer ≡ (listing_with f.0 (safe (verdict (formula q))) (columns_of (columns (formula q))), f.1)
found-beside write Done q endless buffer = refl
found-beside write Done q (listed rows) buffer = refl
found-beside write (Refused n p) q found buffer = refl

module _ (bs : List ℕ) where
  pub input-answer : (input_of bs).answer ≡ first_cause (input_checks bs)
  input-answer = input_reply-answer (first_cause (input_checks bs)) bs

  -- The verdict by the first cause met, and the list by the first of its own.
  judged-by : (a : Answer) → first_cause (input_checks bs) ≡ a → judged_of bs ≡ judged_reply a (query_read bs)
  judged-by a e = ap (λ b. judged_reply b (query_read bs)) e

  pub listing-by-cause : (write : Writing (List ℕ)) (room : ℕ) (buffer : List ℕ) (a : Answer) → first_cause (list_checks bs room) ≡ a → listing_in write room bs buffer ≡ listing_reply write a (query_read bs) (result_in bs) buffer
  listing-by-cause write room buffer a e = ap (λ b. listing_reply write b (query_read bs) (result_in bs) buffer) e

  -- No cause is met: the query is read, with few columns, and the records fill a store.
  module _ (c : first_cause (input_checks bs) ≡ Done) where
    later-clear : first_cause (query_checks bs ++ filling_checks bs) ≡ Done
    later-clear = (first-passed 2 (is_whole bs) (query_checks bs ++ filling_checks bs) c).1

    pub query-accepted : (read_of (widths_in bs) (query_in bs)).answer ≡ Done
    query-accepted = ap (λ a. (read_reply a (constants_of (query_in bs)) (nodes_of (query_in bs))).answer) (first_done (query_checks bs) (filling_checks bs) later-clear)

    pub input-few : length (columns (formula (query_read bs))) ≤ 4
    input-few = read-few (widths_in bs) (query_in bs) query-accepted

    pub records-filled : (fill_reply (widths_in bs) (records_in bs)).answer ≡ Done
    records-filled = fill-answer (widths_in bs) (records_in bs) (read-widths (widths_in bs) (query_in bs) query-accepted) ∙ later-done (query_checks bs) (filling_checks bs) later-clear

  pub judged-answer : (judged_of bs).answer ≡ first_cause (input_checks bs)
  judged-answer = judged_reply-answer (first_cause (input_checks bs)) (query_read bs)

  -- Refused.
  module _ (n p : ℕ) (c : first_cause (input_checks bs) ≡ Refused n p) where
    pub input-refused : input_of bs ≡ refusal n p
    input-refused = input-by bs (Refused n p) c

    pub judged-refused : judged_of bs ≡ verdict_refusal n p
    judged-refused = judged-by (Refused n p) c

    pub listing-refused : (write : Writing (List ℕ)) (room : ℕ) (buffer : List ℕ) → listing_in write room bs buffer ≡ (declined n p, buffer)
    listing-refused write room buffer = listing-by-cause write room buffer (Refused n p) (then-refused (input_checks bs) (row_checks (store_in bs) (query_read bs) room) n p c)

  -- Accepted.
  module _ (c : first_cause (input_checks bs) ≡ Done) where
    pub input-done : input_of bs ≡ input_reply Done bs
    input-done = input-by bs Done c

    pub judged-done : judged_of bs ≡ judged (query_read bs)
    judged-done = judged-by Done c

    -- The query can be answered over the store, its constants being 32-bit numbers.
    pub input-answerable : ((i : ℕ) → get_or (query_read bs).constants i 0 < 2 ^ 32) → Answerable (store_in bs) (query_read bs) (columns_of (columns (formula (query_read bs))))
    input-answerable small =
        record {
          layout = reflects (reflects-layout (store_in bs)) (fill-layout (widths_in bs) (records_in bs) (records-filled c)).1;
          accepted =
              subst⁻¹ (λ ws. Accepted ws (query_read bs)) (fill-widths (widths_in bs) (records_in bs) (records-filled c))
              (reading-accepted (widths_in bs) (query_in bs) small (query-accepted c));
          columns_are = refl;
        }

    -- The form has the constants of the query.
    pub form-constants : (form_of (query_read bs)).constants ≡ (query_read bs).constants
    form-constants =
        ap (padded max_constants 0) (read-pool (widths_in bs) (query_in bs) (query-accepted c))
        ∙ sym (ap (λ a. (read_reply a (constants_of (query_in bs)) (nodes_of (query_in bs))).query.constants) (read-cause (widths_in bs) (query_in bs) Done (query-accepted c)))

    -- The list is what was found, with the verdict and the columns beside it.
    pub listing-done : (write : Writing (List ℕ)) (room : ℕ) (buffer : List ℕ) → let q = query_read bs in let f = evaluated_by write (store_in bs) q room buffer in listing_in write room bs buffer ≡ (listing_with f.0 (judged q).safe (judged q).columns, f.1)
    listing-done write room buffer =
        let last : List Check = row_checks (store_in bs) (query_read bs) room in
        listing-by-cause write room buffer (first_cause last) (then-done (input_checks bs) last c) ∙ found-beside write (first_cause last) (query_read bs) (result_in bs) buffer
