-- A piece that is written into the rest of the output, behind what is written already.
use Rattle.std.proofs.Common.{◌≡◌, ℕ, ◌+◌, ◌-◌, ◌≤◌, List, ◌++◌, length, take, drop, sym, append_assoc, length-append, length-drop, arith}
use Rattle.std.proofs.Math.Seq.{drop-drop, take_at, drop_at}
use Rattle.std.proofs.lemmas.Grind.{common_steps}
use borrow.Rule.Slice.PartMut.{put_mid, mid_of}
use Rattle.putting.specs.Putting.{Put}

-- the part that is lent is the rest, and nothing lies behind it
mid_rest : (at : ℕ) (out : List ℕ) → mid_of at (length out - at) out ≡ drop at out
mid_rest at out = grind (arith, common_steps)

put_rest : (at : ℕ) (out part : List ℕ) → put_mid at (length out - at) out part ≡ take at out ++ part
put_rest at out part = grind (arith, common_steps)

-- a piece behind what is done
pub put_behind : (at : ℕ) (done piece old out part : List ℕ) → at ≡ length done → Put done old out → Put piece (mid_of at (length out - at) out) part
    → Put (done ++ piece) old (put_mid at (length out - at) out part)
put_behind at done piece old out part far so_far put =
    let before : take at out ≡ done = rw so_far (take_at done _ at (sym far)) in
    let behind : drop at out ≡ drop at old = rw (so_far, drop_at done _ at (sym far), far) in
    rw (put_rest at out part, before, put, mid_rest at out, behind, drop-drop, length-append, append_assoc, far)

-- what is written, and that it reaches up to a place
pub record Front (done : List ℕ) (at : ℕ) (old out : List ℕ) : Type 0 where
  pub far : at ≡ length done
  pub put : Put done old out

-- a piece more
pub front_behind : {done : List ℕ} {at : ℕ} {old out : List ℕ} (piece part : List ℕ) {size : ℕ} → Front done at old out → size ≡ length piece → Put piece (mid_of at (length out - at) out) part
    → Front (done ++ piece) (at + size) old (put_mid at (length out - at) out part)
front_behind {done} {at} {old} {out} piece part {size} front long put =
    record { far = omega (arith, length-append done piece, front.far, long); put = put_behind at done piece old out part front.far front.put put }

-- where a piece fits behind a place, it fits the rest
pub room_rest : (at : ℕ) (piece out : List ℕ) → at + length piece ≤ length out → length piece ≤ length (mid_of at (length out - at) out)
room_rest at piece out fits = rw (mid_rest at out, length-drop) (omega arith)
