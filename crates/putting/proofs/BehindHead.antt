-- The content of a field, written behind the field's head.
use Prim.Native.Nat.{ℕ, ◌-◌, ◌/◌, ◌%◌}
use mathlib.Core.Path.{◌≡◌, refl}
use mathlib.Core.List.{List, [], ◌∷◌}
use lib.ListN.{length}
use borrow.Rule.Slice.PartMut.{put_mid, mid_of}
use Rattle.written.specs.Written.{field}
use Rattle.putting.specs.Putting.{Put}
use Rattle.putting.proofs.Behind.{put_behind}

-- a head that tells the content's length, and the content behind it, are the field
pub put_behind_head : (tag size : ℕ) (content old out part : List ℕ) → size ≡ length content → Put (tag ∷ size / 256 ∷ size % 256 ∷ []) old out
    → Put content (mid_of 3 (length out - 3) out) part → Put (field tag content) old (put_mid 3 (length out - 3) out part)
put_behind_head tag size content old out part long head put =
    rw (← long) (put_behind 3 (tag ∷ size / 256 ∷ size % 256 ∷ []) content old out part refl head put)
