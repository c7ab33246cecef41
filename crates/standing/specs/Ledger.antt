-- The ledger of a run: document 01, "The ledger of a run", in its own words. It is fed the store, then each opening's query and each call's kind, record and
-- buffers, and no answer. Over one store it keeps a family of lists; each step names the index of its own. What it judges, keeps and answers is said here, by
-- membership and order, and cites no check of the engine; a query is what the reader reads in its bytes. Definitions only: that there is exactly one ledger is in Ledger/Laws.antt, and Ledger/Ties.antt ties its
-- judgements to the engine's checks.
use Rattle.std.specs.Prelude.{ℕ, ◌+◌, ◌*◌, ◌≤◌, ◌<◌, ◌≡◌, ◌↔◌, ◌⊎◌, ◌≢◌, Bool, true, false, List, [], ◌∷◌, map, length, get_or}
use Rattle.std.proofs.Math.Option.{some}
use Rattle.calculus.specs.Sets.{In}
use Rattle.calculus.specs.Order.{Ascending}
use Rattle.calculus.specs.Generators.{columns}
use Rattle.calculus.specs.Rows.{Row, row_below, RowSat, Endless}
use Rattle.tables.specs.declared.Record.{Record}
use Rattle.tables.specs.declared.Store.{Store}
use Rattle.tables.specs.Records.{values_of, record_below, fact_of}
use Rattle.tables.specs.Store.{held}
use Rattle.query.specs.declared.Query.{Query}
use Rattle.query.specs.Reading.{pool, formula, read_of}
use Rattle.standing.specs.Families.{Family, no_list, with_list}
use Rattle.standing.specs.Checks.{Action, put, removal}

-- What a ledger keeps of a list: its query, rows, the endless mark and the three counts.
pub record Account : Type 0 where
  pub query : Query
  pub rows : List Row
  pub endless : Bool
  pub opening : ℕ
  pub joined : ℕ
  pub left : ℕ

-- What a ledger keeps: widths, records (those held), and an account of each list that was opened.
pub record Ledger : Type 0 where
  pub widths : List ℕ
  pub records : List Record
  pub lists : Family Account

-- What a ledger is fed of a call: its kind, with the record, and the two buffers as lent.
pub record Call : Type 0 where
  pub action : Action
  pub first : List ℕ
  pub second : List ℕ

-- What a ledger is fed in turn, with the index of the list: an opening, for the query in these bytes, or a call.
pub data Step : Type 0 where
  opening : ℕ → List ℕ → Step
  call : ℕ → Call → Step

-- What a ledger answers to a call: number and place of the first cause met; with none 0 and 0, and the rows that joined and left.
pub record Report : Type 0 where
  pub number : ℕ
  pub place : ℕ
  pub joined : List Row
  pub left : List Row

-- ---- what it finds

-- The rows and the mark of a list: all rows that satisfy the query over the records, each once, ascending, where variables and quantifiers range over all
-- whole numbers; or, where infinitely many do, the mark and no row.
abbrev pub Found : Query → List ℕ → List Record → Bool → List Row → Type 0
Found q ws records true rows = Endless (pool q) (map (fact_of ws) records) (formula q) (columns (formula q)) × (rows ≡ [])
Found q ws records false rows =
    Ascending row_below rows × ((w : Row) → In w rows ↔ RowSat (pool q) (map (fact_of ws) records) (formula q) (columns (formula q)) w)

-- A ledger before the first opening: its widths and records are the store's.
pub record Begins (s : Store) (l : Ledger) : Type 0 where
  pub widths_are : l.widths ≡ s.widths
  pub records_are : l.records ≡ held s
  pub lists_are : l.lists ≡ no_list

-- The account of a list opened for the query q: its rows and mark are found over the ledger's records; the count of rows at opening is the number kept, the
-- others are 0.
pub record Opens (q : Query) (l : Ledger) (a : Account) : Type 0 where
  pub query_is : a.query ≡ q
  pub found : Found q l.widths l.records a.endless a.rows
  pub opening_is : a.opening ≡ length a.rows
  pub joined_is : a.joined ≡ 0
  pub left_is : a.left ≡ 0

-- ---- what it judges

-- Cause 13: the record's relation is over 15 or absent, or a value past its width isn't zero.
abbrev pub Unfit : List ℕ → Record → Type 0
Unfit ws t =
    let width : ℕ = get_or ws t.relation 0 in
    (15 < t.relation) ⊎ (width ≡ 0) ⊎ ((i : ℕ) × (width ≤ i) × (get_or (values_of t) i 0 ≢ 0))

-- Cause 15, for a record that isn't held: 256 are held.
abbrev pub Full : Record → List Record → Type 0
Full t records = 256 ≤ length records

-- Cause 17: over 512 rows, or a count past 18,446,744,073,709,551,615.
abbrev pub Past : ℕ → Type 0
Past n = 18446744073709551615 < n

abbrev pub Over : Account → Type 0
Over a = (512 < length a.rows) ⊎ Past a.opening ⊎ Past a.joined ⊎ Past a.left

-- The first cause met: where P holds its number is the answer, else what the later ones come to; 0 where none is met.
abbrev pub cause : ℕ → Type 0 → (ℕ → Type 0) → ℕ → Type 0
cause number P later a = (P × (a ≡ number)) ⊎ (¬ P × later a)

abbrev pub no_cause : ℕ → Type 0
no_cause a = a ≡ 0

-- Causes 13 to 16, judged by the ledger's widths and records. A put meets 13, 14 and 15, a removal 13 and 16.
abbrev pub RecordCause : Ledger → Action → ℕ → Type 0
RecordCause l (put t) =
    cause 13 (Unfit l.widths t)
    (cause 14 (In t l.records)
    (cause 15 (Full t l.records)
    no_cause))
RecordCause l (removal t) =
    cause 13 (Unfit l.widths t)
    (cause 16 (¬ In t l.records)
    no_cause)

-- Causes 17 to 19, judged by the renewed account, the rows that joined and left, and the lengths of the buffers.
abbrev pub ReportCause : Account → List Row → List Row → Call → ℕ → Type 0
ReportCause a joined left c =
    let k : ℕ = length (columns (formula a.query)) in
    cause 17 (Over a)
    (cause 18 (length c.first < length joined * k)
    (cause 19 (length c.second < length left * k)
    no_cause))

-- ---- a put or removal

-- The record r is among the records once t is added to them, or taken out of them.
abbrev pub Among : Action → List Record → Record → Type 0
Among (put t) records r = In r records ⊎ (r ≡ t)
Among (removal t) records r = In r records × (r ≢ t)

-- The rows in the first list and not in the second, ascending.
abbrev pub Difference : List Row → List Row → List Row → Type 0
Difference xs ys rows = Ascending row_below rows × ((w : Row) → In w rows ↔ (In w xs × ¬ In w ys))

-- What a call makes of the records, and of the account a of its list: the record is added to the records or taken out, and they ascend; rows and mark are found
-- anew as at the opening. Rows joined are kept now and not before, rows left before and not now; their numbers are added to the counts.
pub record Renews (l : Ledger) (a : Account) (c : Call) (joined left : List Row) (records : List Record) (b : Account) : Type 0 where
  pub records_ascend : Ascending record_below records
  pub records_are : (r : Record) → In r records ↔ Among c.action l.records r
  pub query_is : b.query ≡ a.query
  pub found : Found a.query l.widths records b.endless b.rows
  pub joined_rows : Difference b.rows a.rows joined
  pub left_rows : Difference a.rows b.rows left
  pub opening_is : b.opening ≡ a.opening
  pub joined_is : b.joined ≡ a.joined + length joined
  pub left_is : b.left ≡ a.left + length left

-- The answer to a call that meets a cause: its number, place 0.
abbrev pub refuses : ℕ → Report
refuses number = record { number = number; place = 0; joined = []; left = [] }

-- The answer to a call that meets no cause, with the rows that joined and left.
abbrev pub reports : List Row → List Row → Report
reports joined left = record { number = 0; place = 0; joined = joined; left = left }

-- The ledger with these records, and this account of the list i. Widths and every other list stay.
abbrev pub keeping : Ledger → List Record → ℕ → Account → Ledger
keeping l records i a = record { widths = l.widths; records = records; lists = with_list i a l.lists }

-- One call of the list i, whose account is a. The first cause met is answered, and the ledger stays as before the call; with none it answers both numbers, and
-- keeps the records and the account that the call makes.
pub data Enters (l : Ledger) (i : ℕ) (a : Account) (c : Call) : Report → Ledger → Type 0 where
  refused : {number : ℕ} → 0 < number → RecordCause l c.action number → Enters l i a c (refuses number) l
  withdrawn : {joined left : List Row} {records : List Record} {b : Account} {number : ℕ} → RecordCause l c.action 0 → Renews l a c joined left records b
      → 0 < number → ReportCause b joined left c number → Enters l i a c (refuses number) l
  accepted : {joined left : List Row} {records : List Record} {b : Account} → RecordCause l c.action 0 → Renews l a c joined left records b
      → ReportCause b joined left c 0 → Enters l i a c (reports joined left) (keeping l records i b)

-- Any number of steps, with the reports of the calls in order. A list can be opened at any time, and opened anew; a list that isn't open has no calls.
pub data Accounts : Ledger → List Step → List Report → Ledger → Type 0 where
  closed : {l : Ledger} → Accounts l [] [] l
  opens : {l n : Ledger} {i : ℕ} {bs : List ℕ} {a : Account} {ss : List Step} {rs : List Report}
      → Opens (read_of l.widths bs).query l a → Accounts (keeping l l.records i a) ss rs n → Accounts l (opening i bs ∷ ss) rs n
  enter : {l m n : Ledger} {i : ℕ} {a : Account} {c : Call} {ss : List Step} {r : Report} {rs : List Report}
      → l.lists i ≡ some a → Enters l i a c r m → Accounts m ss rs n → Accounts l (call i c ∷ ss) (r ∷ rs) n
