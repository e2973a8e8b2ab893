-- An image that loading accepts is the image of the directory that it spells: below the check because both follow the table of bytes, and
-- because a block that passes is sealed.
use mathlib.Core.Path.{◌≡◌, refl, sym, ap, ◌∙◌}
use mathlib.Core.List.{List}
use Prim.Native.Nat.{ℕ, ◌+◌, ◌*◌, ◌<◌}
use native.Mathlib.Omega.{arith}
use lib.ListN.{get_or, take}
use lib.Seq.{length-take-le, get_or-take}
use Rattle.words.proofs.Lists.{listed_at, listed_of}
use Rattle.words.proofs.Numbers.{digit-number}
use Rattle.sealed.specs.Sealed.{sealed}
use Rattle.sealed.proofs.Seals.{passes-sealed}
use Rattle.image.specs.Directory.{no_entry, entry_at}
use Rattle.image.specs.Load.{entry_from, directory_of}
use Rattle.image.specs.Write.{byte_of, body_of, image_of}
use Rattle.image.proofs.Clear.{clear-means}
use Rattle.image.proofs.Loads.{Good}
use Rattle.image.proofs.Table.{EntryTable, Table, table_of, table-only}

entry-at : (b : List ℕ) (m : ℕ) → m < 32 → entry_at (directory_of b) m ≡ entry_from b m
unfolding directory_of
entry-at b m l = listed_at (entry_from b) 32 m no_entry l

module _ (b : List ℕ) (bytes : (k : ℕ) → get_or b k 0 < 256) where
  -- the same byte, by two names of its place
  place : (i j : ℕ) → i ≡ j → get_or b i 0 ≡ get_or b j 0
  place i j e = ap (λ (k : ℕ). get_or b k 0) e

  entry_read : (m : ℕ) → get_or b (16 + 8 * m + 3) 0 ≡ 0 → EntryTable (λ j. get_or b (16 + 8 * m + j) 0) (entry_from b m)
  unfolding entry_from
  entry_read m spare =
      record {
        level = place (16 + 8 * m + 0) (16 + 8 * m) (omega arith);
        units = refl;
        flags = refl;
        spare = spare;
        point = λ j l. place (16 + 8 * m + (4 + j)) (16 + 8 * m + 4 + j) (omega arith) ∙ sym (digit-number b bytes 4 (16 + 8 * m + 4) j l);
      }

  -- the bytes of a good image follow the table for the directory that loading reads from them
  table-read : Good b → Table (λ i. get_or b i 0) (directory_of b)
  unfolding directory_of
  table-read g =
      let zero = clear-means b g.clears in
      record {
        form = g.formed;
        modules = refl;
        every = refl;
        spare = zero.spare;
        defined = λ j l. sym (digit-number b bytes 8 8 j l);
        entries = λ m l. rw (entry-at b m l) (entry_read m (zero.entry m l));
        rest = zero.rest;
      }

module _ (b : List ℕ) (bytes : (k : ℕ) → get_or b k 0 < 256) (g : Good b) where
  byte-same : (i : ℕ) → i < 510 → byte_of (directory_of b) i ≡ get_or b i 0
  byte-same i l =
      (table-only (byte_of (directory_of b)) (λ k. get_or b k 0) (table_of (directory_of b) (byte_of (directory_of b)) (λ k h. refl)) (table-read b bytes g)).at i (omega arith) l

  body_same : body_of (directory_of b) ≡ take 510 b
  unfolding body_of
  body_same =
      listed_of (byte_of (directory_of b)) (take 510 b) 510 0 (length-take-le 510 b (omega (arith, g.long)))
      (λ i l. byte-same i l ∙ sym (get_or-take 510 b i 0 l))

  pub image-same : image_of (directory_of b) ≡ b
  unfolding image_of
  image-same = ap sealed body_same ∙ passes-sealed b g.long bytes g.checked
