-- What one field more does to a sheet: its entry stands behind the entries so far.
use Prim.Native.Nat.{ℕ, zero, suc, ◌+◌, ◌≤◌, ◌<◌}
use native.Mathlib.Numerals.{add-one}
use native.Mathlib.Omega.{arith}
use mathlib.Core.Path.{◌≡◌, refl, ap}
use mathlib.Core.List.{List, [], ◌∷◌, ◌++◌, map, map-append, append-nil, append_assoc}
use mathlib.Core.Bool.{Bool, false, true≢false}
use lib.Dec.{eqb}
use lib.ListN.{length, take, drop, set, length-set}
use lib.Seq.{take-suc-set}
use borrow.Author.Tests.{ltb-false, ne_eqb}
use Rattle.fields.specs.Deciding.{pick, any_from}
use Rattle.fields.specs.Fields.{line_of, fields}
use Rattle.fields.specs.Limits.{mode_limit, row_limit, task_limit}
use Rattle.fields.specs.Values.{empty_sheet}
use Rattle.rules.specs.Rules.{out_of_order, common_rules}
use Rattle.sheet.specs.Meaning.{modes_in, rows_in, tasks_in}
use Rattle.sheet.specs.Values.{with_label, with_mode, with_row, with_task}
use Rattle.fields.specs.declared.values.Mode.{Mode}
use Rattle.fields.specs.declared.values.Row.{Row}
use Rattle.fields.specs.declared.values.Task.{Task}
use Rattle.fields.specs.declared.values.Sheet.{Sheet}
use Rattle.fields.proofs.Deciding.{Kept, neither}
use Rattle.sheet.proofs.KeptRules.{order_kept}
use Rattle.sheet.proofs.Numbered.{common_says}
use Rattle.written.specs.Reading.{label_in}
use Rattle.written.specs.Values.{Entry, LabelEntry, ModeEntry, TaskEntry}
use Rattle.written.proofs.Sheets.{row_entry, entries_in}

-- what holds of every sheet so far: its arrays are as long as their limits, and it counts none of a kind whose tag is above the last
pub record InOrder (sheet : Sheet) : Type 0 where
  pub mode_room : length sheet.modes ≡ mode_limit
  pub row_room : length sheet.rows ≡ row_limit
  pub task_room : length sheet.tasks ≡ task_limit
  pub no_modes : sheet.tally.last ≤ 1 → sheet.tally.modes ≡ 0
  pub no_rows : sheet.tally.last ≤ 2 → sheet.tally.rows ≡ 0
  pub no_tasks : sheet.tally.last ≤ 3 → sheet.tally.tasks ≡ 0

pub empty_in_order : InOrder empty_sheet
unfolding empty_sheet
empty_in_order =
    record {
      mode_room = refl;
      row_room = refl;
      task_room = refl;
      no_modes = λ _. refl;
      no_rows = λ _. refl;
      no_tasks = λ _. refl;
    }

-- a sheet that is in order has no entries where no known field was read
pub none_entered : (bytes : List ℕ) (sheet : Sheet) → InOrder sheet → sheet.tally.last ≡ 0 → entries_in bytes sheet ≡ []
unfolding entries_in pick
none_entered bytes sheet order none =
    let modes : sheet.tally.modes ≡ 0 = order.no_modes (omega arith) in
    let rows : sheet.tally.rows ≡ 0 = order.no_rows (omega arith) in
    let tasks : sheet.tally.tasks ≡ 0 = order.no_tasks (omega arith) in
    rw (none, modes, rows, tasks) refl

-- rule 3: the last tag is not above the field's, and no field comes before the label
not_above : (last tag : ℕ) → out_of_order last tag ≡ false → last ≤ tag
unfolding out_of_order
not_above last tag e = ltb-false _ _ (neither _ _ e).0

label_first : (last : ℕ) → out_of_order last 1 ≡ false → last ≡ 0
unfolding out_of_order pick line_of fields any_from
label_first zero e = refl
label_first (suc zero) e = absurd (true≢false e)
label_first (suc (suc more)) e = absurd (let above : suc (suc more) ≤ 1 = not_above (suc (suc more)) 1 e in omega arith)

-- every other field comes behind the label
pub label_before : (last tag : ℕ) → out_of_order last tag ≡ false → 1 < tag → 1 ≤ last
unfolding line_of fields
label_before last tag e behind = order_kept last tag 1 e refl behind

-- the label's entry stands where a known field was read
pub label_entered : (last : ℕ) (label : List Entry) → 1 ≤ last → pick (eqb last 0) [] label ≡ label
unfolding pick
label_entered last label some = let other : eqb last 0 ≡ false = ne_eqb last 0 (λ (e : last ≡ 0). omega arith) in rw other refl

-- one value more in an array is one entry more
one_more : {A : Type 0} (entry : A → Entry) (values : List A) (count : ℕ) (value : A) → count < length values
    → map entry (take (count + 1) (set values count value)) ≡ map entry (take count values) ++ (entry value ∷ [])
one_more entry values count value free = rw (add-one count, take-suc-set values count value free) (map-append entry (take count values) (value ∷ []))

-- what is added to a part stands behind all where nothing is behind the part
behind_all : (before part more after : List Entry) → after ≡ [] → before ++ (part ++ more ++ after) ≡ before ++ (part ++ after) ++ more
behind_all before part more after none = rw none (simp (append-nil, append_assoc))

-- the sheet is in order with the field, and has its entry behind those before
pub record Entered (bytes : List ℕ) (sheet : Sheet) (entry : Entry) (grown : Sheet) : Type 0 where
  pub order : InOrder grown
  pub more : entries_in bytes grown ≡ entries_in bytes sheet ++ (entry ∷ [])

-- a label, a mode, a row or a fixed task whose first rules are kept
module _ (bytes : List ℕ) (sheet : Sheet) (order : InOrder sheet) (size : ℕ) (unlike : Bool) where
  pub with_label_lem : (start : ℕ) → Kept (common_rules 1 sheet.tally.last size unlike 0)
      → Entered bytes sheet (LabelEntry (take size (drop start bytes))) (with_label sheet start size)
  unfolding entries_in pick
  with_label_lem start kept =
      let none : sheet.tally.last ≡ 0 = label_first _ (common_says _ _ _ _ _ kept).0 in
      let modes : sheet.tally.modes ≡ 0 = order.no_modes (omega arith) in
      let rows : sheet.tally.rows ≡ 0 = order.no_rows (omega arith) in
      let tasks : sheet.tally.tasks ≡ 0 = order.no_tasks (omega arith) in
      record {
        order =
            record {
              mode_room = order.mode_room;
              row_room = order.row_room;
              task_room = order.task_room;
              no_modes = λ _. modes;
              no_rows = λ _. rows;
              no_tasks = λ _. tasks;
            };
        more = rw (none, modes, rows, tasks) refl;
      }

  pub with_mode_lem : (mode : Mode) → Kept (common_rules 2 sheet.tally.last size unlike sheet.tally.modes) → Entered bytes sheet (ModeEntry mode) (with_mode sheet mode)
  unfolding entries_in pick line_of fields
  with_mode_lem mode kept =
      let says = common_says _ _ _ _ _ kept in
      let last = sheet.tally.last in
      let above : last ≤ 2 = not_above _ _ says.0 in
      let free : sheet.tally.modes < length sheet.modes = omega (arith, order.mode_room) in
      let rows : sheet.tally.rows ≡ 0 = order.no_rows above in
      let tasks : sheet.tally.tasks ≡ 0 = order.no_tasks (omega arith) in
      let none : map (row_entry bytes) (rows_in sheet) ++ map TaskEntry (tasks_in sheet) ≡ [] = rw (rows, tasks) refl in
      record {
        order =
            record {
              mode_room = simp length-set order.mode_room;
              row_room = order.row_room;
              task_room = order.task_room;
              no_modes = λ low. absurd (omega arith);
              no_rows = λ _. rows;
              no_tasks = λ _. tasks;
            };
        more = rw (label_entered last _ (label_before _ _ says.0 (omega arith)), one_more ModeEntry sheet.modes sheet.tally.modes mode free)
            (ap (λ (l : List Entry). LabelEntry (label_in bytes sheet) ∷ l) (behind_all [] (map ModeEntry (modes_in sheet)) (ModeEntry mode ∷ []) _ none));
      }

  pub with_row_lem : (row : Row) → Kept (common_rules 3 sheet.tally.last size unlike sheet.tally.rows) → Entered bytes sheet (row_entry bytes row) (with_row sheet row)
  unfolding entries_in pick line_of fields
  with_row_lem row kept =
      let says = common_says _ _ _ _ _ kept in
      let last = sheet.tally.last in
      let above : last ≤ 3 = not_above _ _ says.0 in
      let free : sheet.tally.rows < length sheet.rows = omega (arith, order.row_room) in
      let tasks : sheet.tally.tasks ≡ 0 = order.no_tasks above in
      let none : map TaskEntry (tasks_in sheet) ≡ [] = rw tasks refl in
      record {
        order =
            record {
              mode_room = order.mode_room;
              row_room = simp length-set order.row_room;
              task_room = order.task_room;
              no_modes = λ low. absurd (omega arith);
              no_rows = λ low. absurd (omega arith);
              no_tasks = λ _. tasks;
            };
        more = rw (label_entered last _ (label_before _ _ says.0 (omega arith)), one_more (row_entry bytes) sheet.rows sheet.tally.rows row free)
            (ap (λ (l : List Entry). LabelEntry (label_in bytes sheet) ∷ l) (behind_all (map ModeEntry (modes_in sheet)) (map (row_entry bytes) (rows_in sheet)) (row_entry bytes row ∷ []) _ none));
      }

  pub with_task_lem : (task : Task) → Kept (common_rules 4 sheet.tally.last size unlike sheet.tally.tasks) → Entered bytes sheet (TaskEntry task) (with_task sheet task)
  unfolding entries_in pick line_of fields
  with_task_lem task kept =
      let says = common_says _ _ _ _ _ kept in
      let last = sheet.tally.last in
      let free : sheet.tally.tasks < length sheet.tasks = omega (arith, order.task_room) in
      record {
        order =
            record {
              mode_room = order.mode_room;
              row_room = order.row_room;
              task_room = simp length-set order.task_room;
              no_modes = λ low. absurd (omega arith);
              no_rows = λ low. absurd (omega arith);
              no_tasks = λ low. absurd (omega arith);
            };
        more = rw (label_entered last _ (label_before _ _ says.0 (omega arith)), one_more TaskEntry sheet.tasks sheet.tally.tasks task free)
            (simp append_assoc);
      }
