-- What the list of an input promises, whatever the input's bytes: the store holds exactly the records of the input; what is answered is right over all whole
-- numbers; each value listed is in a record of a relation that the query names or is a constant of it, so a 32-bit number; and where the query is judged
-- safe-range it is never endless.
use Rattle.std.specs.Prelude.{ℕ, zero, suc, ◌+◌, ◌<◌, ◌^◌, ◌≡◌, refl, ◌↔◌, true, List, [], ◌∷◌, get_or}
use Rattle.std.proofs.Common.{arith, subst, ⊎_elim, get_or-drop}
use Rattle.std.proofs.Math.Path.{subst⁻¹}
use Rattle.calculus.specs.Sets.{In, here, there}
use Rattle.calculus.proofs.Theory.Lists.Laws.{from-tabulate, from-take}
use Rattle.calculus.proofs.Theory.Reflects.Laws.{confirmed-by}
use Rattle.calculus.specs.Satisfaction.{Fact, fact, Database, constant, known}
use Rattle.calculus.proofs.Theory.Satisfaction.Laws.{known-means}
use Rattle.calculus.specs.Generators.{columns, verdict, safe}
use Rattle.calculus.proofs.Theory.SafeRange.Result.{fv-columns, safe-reflects, safe-values, safe-not-endless}
use Rattle.calculus.specs.Rows.{Row, Result, endless, listed}
use Rattle.calculus.proofs.Theory.Evaluation.Laws.{within-or-beyond, endless-iff, not-endless, result-right}
use Rattle.causes.specs.Causes.{Done, first_cause}
use Rattle.tables.specs.declared.Record.{Record}
use Rattle.tables.specs.Records.{values_of, width, fact_of}
use Rattle.tables.specs.Store.{facts}
use Rattle.tables.proofs.Theory.Fill.Laws.{fill-facts}
use Rattle.query.specs.declared.Query.{Query}
use Rattle.query.specs.Reading.{constants_of, pool, formula}
use Rattle.query.proofs.Theory.Accepted.Laws.{read-pool, word_fits, constant-fits}
use Rattle.answer.specs.Reply.{EndlessOver, RightOver, KnownTo}
use Rattle.packed.specs.Packed.{widths_in, count_in, start, record_at, records_in, query_in, store_in, query_read, result_in, input_checks, Listed}
use Rattle.packed.proofs.Theory.Packed.Laws.{query-accepted, records-filled}

-- The values of a fact.
abbrev values_in : Fact → List ℕ
values_in (fact r vs) = vs

-- Past a list's end a place has 0.
within-pool : (cs : List ℕ) → ((v : ℕ) → In v cs → v < 2 ^ 32) → (p : ℕ) → get_or cs p 0 < 2 ^ 32
within-pool [] h p = omega arith
within-pool (c ∷ cs) h zero = h c (here refl)
within-pool (c ∷ cs) h (suc p) = within-pool cs (λ v i. h v (there i)) p

module _ (bs : List ℕ) where
  -- What is answered is right: endless where infinitely many rows satisfy the query over the store's records, else all rows that do, each once, ascending.
  pub result-in-right : RightOver (store_in bs) (query_read bs) (result_in bs)
  result-in-right = let q : Query = query_read bs in result-right (pool q) (facts (store_in bs)) (formula q) (columns (formula q)) (fv-columns (formula q))

  -- The facts that the store states are those of the input's records, in whatever order and however often they stand there.
  pub store-facts : first_cause (input_checks bs) ≡ Done → (f : Fact) → In f (facts (store_in bs)) ↔ ((r : Record) × In r (records_in bs) × (f ≡ fact_of (widths_in bs) r))
  store-facts e f = fill-facts (widths_in bs) (records_in bs) (records-filled bs e) f

  -- Where rows are listed, each value of each row is known, also of a query that isn't safe-range.
  pub listed-known : (rows : List Row) → result_in bs ≡ listed rows → (w : Row) → In w rows → (v : ℕ) → In v w → KnownTo (store_in bs) (query_read bs) v
  listed-known rows e w i v j =
      let q : Query = query_read bs in let D : Database = facts (store_in bs) in let cols : List ℕ = columns (formula q) in
      let r = subst (RightOver (store_in bs) q) e result-in-right in
      ⊎_elim
      (λ h. (known-means (pool q) D (formula q) v).0 (h v j))
      (λ b. absurd (not-endless (pool q) D (formula q) cols rows r ((endless-iff (pool q) D (known (pool q) D (formula q)) (formula q) cols (λ u k. k) (fv-columns (formula q))).1 (w, (r.1 w).0 i, b))))
      (within-or-beyond (known (pool q) D (formula q)) w)

  -- Each value listed is a 32-bit number, the input being bytes: its digits read back as it.
  module _ (small : (i : ℕ) → get_or bs i 0 < 256) (done : first_cause (input_checks bs) ≡ Done) where
    values-small : (i v : ℕ) → In v (values_of (record_at bs i)) → v < 2 ^ 32
    values-small i v (here e) = subst⁻¹ (λ u. u < 2 ^ 32) e (word_fits bs small (start i + 1))
    values-small i v (there (here e)) = subst⁻¹ (λ u. u < 2 ^ 32) e (word_fits bs small (start i + 5))
    values-small i v (there (there (here e))) = subst⁻¹ (λ u. u < 2 ^ 32) e (word_fits bs small (start i + 9))
    values-small i v (there (there (there (here e)))) = subst⁻¹ (λ u. u < 2 ^ 32) e (word_fits bs small (start i + 13))
    values-small i v (there (there (there (there x12)))) = elim x12 [ ]

    fact_small : (f : Fact) → In f (facts (store_in bs)) → (v : ℕ) → In v (values_in f) → v < 2 ^ 32
    fact_small f i v j =
        let s = (store-facts done f).0 i in let t = from-tabulate (record_at bs) (count_in bs) s.1 in
        values-small t.0 v (subst (λ r. In v (values_of r)) t.2 (from-take (width (widths_in bs) s.0) (values_of s.0) (subst (λ g. In v (values_in g)) s.2 j)))

    constant-small : (p : ℕ) → constant (pool (query_read bs)) p < 2 ^ 32
    constant-small p =
        subst⁻¹ (λ cs. get_or cs p 0 < 2 ^ 32) (read-pool (widths_in bs) (query_in bs) (query-accepted bs done))
        (within-pool (constants_of (query_in bs)) (constant-fits (query_in bs) (λ i. subst⁻¹ (λ b. b < 256) (get_or-drop (start (count_in bs)) bs i 0) (small (start (count_in bs) + i)))) p)

    pub listed_small : (rows : List Row) → result_in bs ≡ listed rows → (w : Row) → In w rows → (v : ℕ) → In v w → v < 2 ^ 32
    listed_small rows e w i v j =
        ⊎_elim (λ s. fact_small (fact s.0 s.2.0) s.2.1 v s.2.2) (λ s. subst⁻¹ (λ u. u < 2 ^ 32) s.2 (constant-small s.0)) (listed-known rows e w i v j)

  -- A query that is judged safe-range has its rows listed, and each value of each row is known.
  module _ (judged : safe (verdict (formula (query_read bs))) ≡ true) where
    pub safe-listed : Listed bs (result_in bs)
    safe-listed = go (result_in bs) result-in-right
      where
        finite : ¬ EndlessOver (store_in bs) (query_read bs)
        finite = let q : Query = query_read bs in safe-not-endless (pool q) (facts (store_in bs)) (formula q) (confirmed-by judged (safe-reflects (formula q)))

        go : (a : Result) → RightOver (store_in bs) (query_read bs) a → Listed bs a
        go endless r = absurd (finite r)
        go (listed rows) r =
            let q : Query = query_read bs in
            (rows, refl, r, λ w i. safe-values (pool q) (facts (store_in bs)) (formula q) (confirmed-by judged (safe-reflects (formula q))) w ((r.1 w).0 i))
