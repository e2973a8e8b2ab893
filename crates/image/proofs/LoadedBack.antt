-- The image of a directory without a fault is good, and spells that directory: its bytes follow the table, and the fields are read from the rows.
use mathlib.Core.Bool.{true}
use mathlib.Core.Path.{◌≡◌, ap, ◌∙◌}
use mathlib.Core.List.{List}
use Prim.Native.Nat.{ℕ, ◌+◌, ◌*◌, ◌^◌, ◌<◌}
use native.Mathlib.Omega.{arith}
use lib.ListN.{length, get_or}
use Rattle.words.specs.Rows.{first_of}
use Rattle.words.proofs.Lists.{listed_at, listed_of}
use Rattle.words.proofs.Numbers.{number_digits}
use Rattle.sealed.specs.Sealed.{passes}
use Rattle.sealed.proofs.Seals.{sealed-at, sealed-passes}
use Rattle.image.specs.declared.Entry.{Entry}
use Rattle.image.specs.declared.Directory.{Directory}
use Rattle.image.specs.Block.{fillers_zero}
use Rattle.image.specs.Directory.{no_entry, entry_at, directory_rows}
use Rattle.image.specs.Load.{entry_from, directory_of}
use Rattle.image.specs.Write.{byte_of, body_of, image_of}
use Rattle.image.proofs.Clear.{clear-shown}
use Rattle.image.proofs.Loads.{Good}
use Rattle.image.proofs.Table.{EntryTable, Table, table_of}
use Rattle.image.proofs.Writes.{body-length, image-length}

-- ---- What bytes that follow the table spell.

module _ (b : List ℕ) where
  entry-spelt : (m : ℕ) (e : Entry) → EntryTable (λ j. get_or b (16 + 8 * m + j) 0) e → e.point < 2 ^ 32 → entry_from b m ≡ e
  unfolding entry_from
  entry-spelt m e t fits =
      let first : 16 + 8 * m ≡ 16 + 8 * m + 0 = omega arith in
      let fourth : (j : ℕ) → 16 + 8 * m + 4 + j ≡ 16 + 8 * m + (4 + j) = λ j. omega arith in
      let level : get_or b (16 + 8 * m) 0 ≡ e.level = rw first t.level in
      let point = number_digits b e.point 4 (16 + 8 * m + 4) (λ j l. rw (fourth j) (t.point j l)) fits in
      rw (level, t.units, t.flags, point)

  module _ (d : Directory) (t : Table (λ i. get_or b i 0) d) where
    pub directory-spelt : length d.entries ≡ 32 → d.defined < 2 ^ 64 → ((m : ℕ) → (entry_at d m).point < 2 ^ 32) → directory_of b ≡ d
    unfolding directory_of
    directory-spelt count defined points =
        let events = number_digits b d.defined 8 8 t.defined defined in
        let entries = listed_of (entry_from b) d.entries 32 no_entry count (λ m l. entry-spelt m (entry_at d m) (t.entries m l) (points m)) in
        rw (t.modules, t.every, events, entries)

    table-clear : fillers_zero b ≡ true
    table-clear = clear-shown b (record { spare = t.spare; entry = λ m l. (t.entries m l).spare; rest = t.rest })

-- ---- The image of a directory.

module _ (d : Directory) where
  image-byte : (i : ℕ) → i < 510 → get_or (image_of d) i 0 ≡ byte_of d i
  unfolding image_of body_of
  image-byte i l = sealed-at (body_of d) (body-length d) i l ∙ listed_at (byte_of d) 510 i 0 l

  pub image-table : Table (λ i. get_or (image_of d) i 0) d
  image-table = table_of d (λ i. get_or (image_of d) i 0) image-byte

  image-checked : passes (image_of d) ≡ true
  unfolding image_of
  image-checked = sealed-passes (body_of d) (body-length d)

  pub image-good : directory_of (image_of d) ≡ d → first_of (directory_rows d) ≡ 0 → Good (image_of d)
  image-good same sound =
      record {
        long = image-length d;
        checked = image-checked;
        formed = image-table.form;
        sound = ap (λ (x : Directory). first_of (directory_rows x)) same ∙ sound;
        clears = table-clear (image_of d) d image-table;
      }
