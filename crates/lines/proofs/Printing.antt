-- The lines that `print` writes one after the other, on values: they are the output's text.
use Prim.Native.Nat.{ℕ, ◌*◌, ◌≤◌, ◌<◌}
use native.Mathlib.Omega.{arith}
use mathlib.Core.Path.{◌≡◌, ◌∙◌}
use mathlib.Core.Bool.{true, false}
use mathlib.Core.List.{List, [], ◌∷◌, ◌++◌}
use lib.ListN.{length, take, length-append}
use lib.Seq.{length-take-le}
use Rattle.calculus.specs.Sets.{union_of}
use Rattle.causes.specs.Causes.{Done, Refused}
use Rattle.query.specs.Reading.{max_nodes}
use Rattle.answer.specs.Reply.{front as at_front}
use Rattle.answer.specs.Code.Listing.{cut}
use Rattle.packed.specs.Packed.{Listing, listing_of}
use Rattle.packed.proofs.Theory.Packed.Places.{listing-refused}
use Rattle.lines.specs.Text.{line, word_refused, word_row, word_rows, word_endless, head_text, text_of, printed}
use Rattle.query.specs.Code.Writing.{wrote}
use Rattle.query.proofs.Theory.Code.Writing.Laws.{wrote_then, wrote-end, wrote-length}
use Rattle.lines.proofs.Theory.Text.Laws.{wrote-printed, length-head, length-line, length-cut-rows}
use Rattle.lines.proofs.Theory.Text.Output.{text-refused, text-endless, text-rows, few_columns, rows_fit}

-- What the list call told with this room, and a buffer for the output.
pub record Ready (bs room : List ℕ) (l : Listing) (after out : List ℕ) : Type 0 where
  pub room-size : length room ≡ 4096
  pub reply : (l, after) ≡ listing_of bs room
  pub places : length l.columns.variables ≡ 4
  pub held : length after ≡ 4096
  pub size : length out ≡ 65536

abbrev pub Prints : List ℕ → List ℕ → ℕ → List ℕ → Type 0
Prints bs out r now = ((r, now) ≡ printed bs out) × (r ≤ 65536)

module _ {bs room : List ℕ} {l : Listing} {after out : List ℕ} (k : Ready bs room l after out) where
  -- The output's text is written.
  whole : (t : List ℕ) (r : ℕ) (now : List ℕ) → text_of bs ≡ t → length t ≤ 65536 → (r, now) ≡ wrote 0 t out → Prints bs out r now
  whole t r now f m w = let p = wrote-printed bs t out now r f (omega (arith, m, k.size)) w in (p.0, omega (arith, p.1, k.size))

  pub refused : (n p r : ℕ) (now : List ℕ) → l.answer ≡ Refused n p → (r, now) ≡ wrote 0 (line word_refused (n ∷ p ∷ [])) out → Prints bs out r now
  refused n p r now g w = whole (line word_refused (n ∷ p ∷ [])) r now (text-refused bs room k.room-size l after k.reply n p g) (omega (arith, length-line word_refused (n ∷ p ∷ []))) w

  -- The place of a refusal is a node's number, or 0.
  pub place-fits : (n p : ℕ) → l.answer ≡ Refused n p → p < max_nodes
  place-fits = listing-refused at_front (length room) bs room l after k.reply

  module _ (g : l.answer ≡ Done) where
    abbrev front : List ℕ
    front = head_text l.safe (take l.columns.count l.columns.variables)

    pub few : l.columns.count ≤ 4
    few = few_columns bs room k.room-size l after k.reply g

    short : length front ≤ 59
    short =
        let c = length-take-le l.columns.count l.columns.variables (omega (arith, few, k.places)) in
        omega (arith, few, c, length-head l.safe (take l.columns.count l.columns.variables))

    pub fits : l.endless ≡ false → (l.rows ≤ 4097) × (l.rows * l.columns.count ≤ 4096)
    fits t = rows_fit bs room k.room-size l after k.reply g t

    -- After the first two lines.
    module _ (m : ℕ) (mid : List ℕ) (w : (m, mid) ≡ wrote 0 front out) where
      pub head-ends : (m ≤ 59) × (length mid ≡ 65536)
      head-ends = (omega (arith, short, wrote-end 0 m front out mid w), wrote-length 0 m front out mid w ∙ k.size)

      pub endless-done : (r : ℕ) (now : List ℕ) → l.endless ≡ true → (r, now) ≡ wrote m (line word_endless []) mid → Prints bs out r now
      endless-done r now t v =
          whole (front ++ line word_endless []) r now (text-endless bs room k.room-size l after k.reply g t)
          (omega (arith, short, length-append front (line word_endless []), length-line word_endless []))
          (wrote_then 0 m r front (line word_endless []) out mid now w v)

      -- After the rows.
      module _ (t : l.endless ≡ false) (p : ℕ) (low : List ℕ) (v : (p, low) ≡ wrote m (union_of (line word_row) (cut l.columns.count l.rows after)) mid) where
        abbrev listed : List ℕ
        listed = union_of (line word_row) (cut l.columns.count l.rows after)

        listed-short : length listed ≤ 61444
        listed-short = omega (arith, fits t, length-cut-rows l.columns.count l.rows after (omega (arith, (fits t).1, k.held)))

        pub rows_end : (p ≤ 61503) × (length low ≡ 65536)
        rows_end = (omega (arith, head-ends.0, listed-short, wrote-end m p listed mid low v), wrote-length m p listed mid low v ∙ head-ends.1)

        pub rows-done : (r : ℕ) (now : List ℕ) → (r, now) ≡ wrote p (line word_rows (l.rows ∷ [])) low → Prints bs out r now
        rows-done r now u =
            let n = line word_rows (l.rows ∷ []) in
            whole (front ++ (listed ++ n)) r now (text-rows bs room k.room-size l after k.reply g t)
            (omega (arith, short, listed-short, length-append front (listed ++ n), length-append listed n, length-line word_rows (l.rows ∷ [])))
            (wrote_then 0 m r front (listed ++ n) out mid now w (wrote_then m p r listed n mid low now v u))
