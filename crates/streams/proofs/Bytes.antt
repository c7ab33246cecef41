-- What one read more puts into a space is what it takes from a reader's bytes.
use Rattle.std.proofs.Common.{◌≡◌, ℕ, ◌+◌, ◌≤◌, List, Option, Some, None, arith, ◌++◌, length, take, drop, sym, ap, subst, ◌∙◌, take-take, take-append-drop, drop_at, length-take-le}
use Rattle.std.proofs.lemmas.List.{drop-take, take-append-le, take_at}
use Rattle.std.proofs.KnownBytes.{Consumes-trans}
use Rattle.std.specs.Io.KnownBytes.{Consumes, Keeps}
use borrow.Rule.Slice.PartMut.{put_mid}

-- a read's bytes stand after the front that was there
pub placed : (from m k : ℕ) (xs ys : List ℕ) → from ≤ length xs → m ≤ length ys → drop from (take (from + m) (put_mid from k xs ys)) ≡ take m ys
placed from m k xs ys inside fits = drop-take from m (put_mid from k xs ys) ∙ ap (take m) (drop_at (take from xs) _ from (length-take-le from xs inside)) ∙ take-append-le m ys _ fits

-- a front that was taken from the reader, and what was taken after it
pub joined : (a b c : Option (List ℕ)) (mid new : List ℕ) (from n : ℕ) → from ≤ n → take from new ≡ take from mid
    → Consumes a b (take from mid) → Consumes b c (drop from (take n new)) → Consumes a c (take n new)
joined a b c mid new from n grown same first second =
    let front = take-take from n new grown ∙ same in
    subst (Consumes a c) (ap (λ l. l ++ drop from (take n new)) (sym front) ∙ take-append-drop from (take n new)) (Consumes-trans a b c _ _ first second)

module _ (a b c : Option (List ℕ)) (mid new : List ℕ) (from k : ℕ) (fits : from ≤ length mid) (first : Consumes a b (take from mid)) where
  -- the front of a space after a read past it
  front : take from (put_mid from k mid new) ≡ take from mid
  front = take_at (take from mid) _ from (length-take-le from mid fits)

  -- m bytes more were read into the space past its front
  pub more-read : (m : ℕ) → m ≤ length new → Consumes b c (take m new) → Consumes a c (take (from + m) (put_mid from k mid new))
  more-read m h second =
      joined a b c mid (put_mid from k mid new) from (from + m) (omega arith) front first (subst (Consumes b c) (sym (placed from m k mid new fits h)) second)

  -- a read brought nothing
  pub none-read : Keeps b c → Consumes a c (take from (put_mid from k mid new))
  none-read same = subst (Consumes a c) (sym front) (kept a b c (take from mid) first same)
    where
      kept : (a b c : Option (List ℕ)) (bs : List ℕ) → Consumes a b bs → Keeps b c → Consumes a c bs
      kept None b c bs h e = record {}
      kept (Some xs) None c bs h e = absurd h
      kept (Some xs) (Some ys) None bs h e = absurd e
      kept (Some xs) (Some ys) (Some zs) bs h e = h ∙ ap (λ l. bs ++ l) (sym e)
