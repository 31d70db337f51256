-- What stands at a place of the file: where the file from there on is a list that begins with a number or a field, that is what is read there.
use Prim.Native.Nat.{ℕ, suc, ◌+◌, ◌-◌, ◌/◌, ◌%◌}
use native.Mathlib.Nat.{div-add-mod', add-zero}
use native.Mathlib.Omega.{arith}
use mathlib.Core.Path.{◌≡◌, ◌∙◌, refl, sym, ap, ap₂}
use mathlib.Core.List.{List, [], ◌∷◌, ◌++◌}
use mathlib.Core.Bool.{false}
use lib.Dec.{ltb}
use lib.ListN.{length, get_or, drop, length-append, length-drop}
use lib.Seq.{get_or-drop, drop-drop, drop-append_seam}
use borrow.Author.Tests.{le-ltb}
use Rattle.fields.specs.Deciding.{pick}
use Rattle.fields.specs.Fields.{kind_of, is_refused}
use Rattle.fields.specs.Reading.{field_at, word_at}
use Rattle.sheet.proofs.Walking.{found}
use Rattle.written.specs.Reading.{words_at}
use Rattle.written.specs.Written.{field, words}

module _ (bytes : List ℕ) (at : ℕ) where
  pub byte_here : (k : ℕ) (l : List ℕ) → drop at bytes ≡ l → get_or bytes (at + k) 0 ≡ get_or l k 0
  byte_here k l e = sym (get_or-drop at bytes k 0) ∙ ap (λ (r : List ℕ). get_or r k 0) e

  pub first_here : (x : ℕ) (l : List ℕ) → drop at bytes ≡ x ∷ l → get_or bytes at 0 ≡ x
  first_here x l e = ap (λ (n : ℕ). get_or bytes n 0) (sym (add-zero at)) ∙ byte_here 0 (x ∷ l) e

  -- k bytes further on
  pub on_here : (k : ℕ) (l : List ℕ) → drop at bytes ≡ l → drop (at + k) bytes ≡ drop k l
  on_here k l e = sym (drop-drop k at bytes) ∙ ap (λ (r : List ℕ). drop k r) e

  -- behind a part
  pub past_here : (part rest : List ℕ) → drop at bytes ≡ part ++ rest → drop (at + length part) bytes ≡ rest
  past_here part rest e = on_here (length part) (part ++ rest) e ∙ drop-append_seam part rest

  -- a number as two bytes
  pub word_here : (x : ℕ) (l : List ℕ) → drop at bytes ≡ x / 256 ∷ x % 256 ∷ l → word_at bytes at ≡ x
  word_here x l e =
      let a : get_or bytes at 0 ≡ x / 256 = first_here _ _ e in
      let b : get_or bytes (at + 1) 0 ≡ x % 256 = byte_here 1 _ e in
      rw (a, b, div-add-mod' x 256) refl

-- numbers as two bytes each
pub words_here : (bytes xs rest : List ℕ) (at : ℕ) → drop at bytes ≡ words xs ++ rest → words_at bytes at (length xs) ≡ xs
unfolding words_at words
words_here bytes [] rest at e = refl
words_here bytes (x ∷ xs) rest at e =
    ap₂ (λ (a : ℕ) (b : List ℕ). a ∷ b) (word_here bytes at x _ e) (words_here bytes xs rest (at + 2) (on_here bytes at 2 _ e))

-- a field stands here
module _ (bytes : List ℕ) (at tag : ℕ) (content rest : List ℕ) (e : drop at bytes ≡ field tag content ++ rest) where
  pub long_here : length bytes ≡ at + 3 + length content + length rest
  long_here = let h : length bytes - at ≡ 3 + length content + length rest = sym (length-drop at bytes) ∙ ap length e ∙ simp length-append (omega arith) in omega arith

  pub field_here : is_refused (kind_of tag) ≡ false → field_at bytes at ≡ found (kind_of tag) (at + 3) (length content) (at + 3 + length content)
  unfolding field_at pick
  field_here known =
      let t : get_or bytes at 0 ≡ tag = first_here bytes at _ _ e in
      let w : word_at bytes (at + 1) ≡ length content = word_here bytes (at + 1) (length content) (content ++ rest) (on_here bytes at 1 _ e) in
      let m : ltb (length bytes) (at + 3) ≡ false = le-ltb (length bytes) (at + 3) (omega (arith, long_here)) in
      let n : ltb (length bytes) (at + 3 + length content) ≡ false = le-ltb (length bytes) (at + 3 + length content) (omega (arith, long_here)) in
      rw (t, m, known, w, n) refl

  pub content_here : drop (at + 3) bytes ≡ content ++ rest
  content_here = on_here bytes at 3 _ e

  past_content : drop (3 + length content) (field tag content ++ rest) ≡ rest
  past_content = let q : 3 + length content ≡ suc (suc (suc (length content))) = omega arith in rw q (drop-append_seam content rest)

  pub next_here : drop (at + 3 + length content) bytes ≡ rest
  next_here = let q : at + 3 + length content ≡ at + (3 + length content) = omega arith in rw (q, on_here bytes at (3 + length content) _ e) (past_content)
