-- The fields of entries written one behind the other: those of the first entries stand at the front of the output, and those of the rest are still to be written.
use Rattle.std.proofs.Common.{◌≡◌, ℕ, ◌+◌, ◌-◌, ◌≤◌, List, [], ◌∷◌, ◌++◌, length, ◌∙◌, sym, ap, subst, append_assoc, length-append, arith}
use mathlib.Core.List.{append-nil}
use borrow.Rule.Slice.PartMut.{put_mid, mid_of}
use Rattle.written.specs.Values.{Entry}
use Rattle.written.specs.Written.{field_of, fields_of}
use Rattle.putting.specs.Putting.{Put, Unbroken}
use Rattle.putting.proofs.Behind.{Front, front_behind, room_rest}
use Rattle.putting.proofs.UnbrokenColumns.{unbroken_behind}

-- some fields are written, and with those that are left they are all; what is left breaks no rule
pub record Standing (all left : List Entry) (at : ℕ) (old out : List ℕ) : Type 0 where
  pub done : List ℕ
  pub front : Front done at old out
  pub fields : fields_of all ≡ done ++ fields_of left
  pub unbroken : Unbroken left

-- the next field
module _ {all left more : List Entry} {entry : Entry} {at : ℕ} {old out : List ℕ} (so_far : Standing all left at old out) (first : left ≡ entry ∷ more) where
  next_fields : fields_of all ≡ so_far.done ++ (field_of entry ++ fields_of more)
  unfolding fields_of
  next_fields = so_far.fields ∙ ap (λ (l : List Entry). so_far.done ++ fields_of l) first

  -- there is room for it
  pub next_room : length out ≡ length old → length (fields_of all) ≤ length old → length (field_of entry) ≤ length (mid_of at (length out - at) out)
  next_room long room =
      let fits = simp length-append at (rw next_fields at room) in
      room_rest at (field_of entry) out (omega (arith, fits, so_far.front.far))

  -- and once it is written it stands behind the others
  pub next_standing : (size : ℕ) (part : List ℕ) → size ≡ length (field_of entry) → Put (field_of entry) (mid_of at (length out - at) out) part
      → Standing all more (at + size) old (put_mid at (length out - at) out part)
  next_standing size part long put =
      record {
        done = so_far.done ++ field_of entry;
        front = front_behind (field_of entry) part so_far.front long put;
        fields = next_fields ∙ sym (append_assoc so_far.done (field_of entry) (fields_of more));
        unbroken = unbroken_behind entry more (subst Unbroken first so_far.unbroken);
      }

-- where nothing is left, all fields are written
pub all_standing : {all left : List Entry} {at : ℕ} {old out : List ℕ} → Standing all left at old out → left ≡ [] → Front (fields_of all) at old out
unfolding fields_of
all_standing {at = at} {old} {out} so_far over =
    let all = so_far.fields ∙ ap (λ (l : List Entry). so_far.done ++ fields_of l) over ∙ append-nil so_far.done in
    rw all so_far.front
