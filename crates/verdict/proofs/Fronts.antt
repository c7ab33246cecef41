-- The nodes of a form as a slice: the first n places of its array. Their formulas, sets and reports are those of the array.
use Prim.Native.Nat.{ℕ, suc, ◌-◌, ◌<◌}
use native.Mathlib.Omega.{arith}
use mathlib.Core.Path.{◌≡◌, refl, sym, ap, ◌∙◌}
use mathlib.Core.Bool.{Bool, ◌&&◌}
use mathlib.Core.List.{List, [], ◌∷◌, map}
use lib.ListN.{length, get_or, take}
use lib.Seq.{length-take-le, get_or-take}
use lib.Dec.{ltb}
use Rattle.calculus.specs.Lists.{padded}
use Rattle.calculus.specs.Reflects.{Reflects, holds, fails}
use Rattle.calculus.proofs.Theory.Reflects.Laws.{reflects-eqb, reflects-ltb}
use Rattle.calculus.specs.Formula.{size}
use Rattle.calculus.specs.Generators.{plain, leaves}
use Rattle.query.specs.Nodes.{kind, under, children}
use Rattle.query.specs.Decoding.{formula_at, formula_in}
use Rattle.query.proofs.Theory.Decoding.Laws.{formulas-take}
use Rattle.query.specs.Packing.{Ordered, childless, after_child, after_both}
use Rattle.query.proofs.Theory.Packing.Trees.{after_one}
use Rattle.query.specs.Reading.{max_nodes, max_columns}
use Rattle.verdict.specs.Bits.{node_mask}
use Rattle.verdict.proofs.Theory.Bits.Laws.{bits-same}
use Rattle.verdict.specs.Code.Form.{IsFormIn}
use Rattle.verdict.specs.Code.Generating.{generated_bits, plain_bits, numbers_of, is_unranged, unranged_in}
use Rattle.verdict.proofs.Theory.Code.Generating.Reports.{unranged-other}

module _ (ns : List ℕ) (n : ℕ) (form : IsFormIn ns n) where
  abbrev front : List ℕ
  front = take n ns

  pub front-length : length front ≡ n
  front-length = length-take-le n ns form.places

  front-node : (i : ℕ) → i < n → get_or front i 0 ≡ get_or ns i 0
  front-node i h = get_or-take n ns i 0 h

  front-formula : (i : ℕ) → i < n → formula_at front i ≡ formula_at ns i
  front-formula i h = ap (λ φs. formula_in φs i) (formulas-take ns n (suc i) (omega arith))

  front-ordered : (i : ℕ) → i < n → (cs : List ℕ) → Ordered ns i cs → Ordered front i cs
  front-ordered i h [] childless = childless
  front-ordered i h (c ∷ []) (after_child e) = after_child e
  front-ordered i h (l ∷ r ∷ []) (after_both e f) = after_both (omega (arith, ap size (front-formula r (omega arith)), e)) f
  front-ordered i h (a ∷ b ∷ c ∷ cs) o = elim o [ ]

  pub front-form : IsFormIn front (length front)
  front-form = record {
    some_node = omega (arith, front-length, form.some_node);
    few_nodes = omega (arith, front-length, form.few_nodes);
    places = omega arith;
    formed = (λ i h. let k : i < n = omega (arith, front-length) in rw (front-node i k) (form.formed i k));
    ordered = (λ i h. let k : i < n = omega (arith, front-length) in rw (front-node i k) (front-ordered i k (children (get_or ns i 0)) (form.ordered i k)));
  }

  pub front-plain : (i : ℕ) → i < n → plain_bits front i ≡ plain_bits ns i
  front-plain i h = ap (λ φ. generated_bits (plain φ 0)) (front-formula i h)

  pub front-numbers : (xs : List ℕ) → numbers_of front (length front) xs ≡ numbers_of ns n xs
  front-numbers xs =
      ap (λ k. numbers_of front k xs) front-length
      ∙ ap (λ φ. padded max_columns 0 (map (λ x. node_mask (leaves (plain φ (suc (n - 1) - size φ) x))) xs)) (front-formula (n - 1) (omega (arith, form.some_node)))

  front-is-unranged : (i : ℕ) → i < n → is_unranged front i ≡ is_unranged ns i
  front-is-unranged i h = go (reflects-eqb (kind (get_or ns i 0)) 6)
    where
      go : {b : Bool} → Reflects (kind (get_or ns i 0) ≡ 6) b → is_unranged front i ≡ is_unranged ns i
      go (holds e) =
          let below : under (get_or ns i 0) < n = let o = form.ordered i h in omega (arith, after_one (rw e at o)) in
          rw (front-node i h, front-plain (under (get_or ns i 0)) below)
      go (fails e) = unranged-other front i (rw (front-node i h) e) ∙ sym (unranged-other ns i e)

  pub front-unranged : unranged_in front (length front) ≡ unranged_in ns n
  front-unranged =
      ap (unranged_in front) front-length
      ∙ bits-same (λ i. ltb i n && is_unranged front i) (λ i. ltb i n && is_unranged ns i) max_nodes (λ i h. go i (reflects-ltb i n))
    where
      go : (i : ℕ) {b : Bool} → Reflects (i < n) b → (b && is_unranged front i) ≡ (b && is_unranged ns i)
      go i (holds h) = front-is-unranged i h
      go i (fails h) = refl
