-- Places in a file.
use Rattle.std.specs.Prelude.{ℕ, ◌+◌, ◌==◌, Bool, not, List, count_by}
use Rattle.std.specs.List.{suffix_len}
use Rattle.au_base.specs.declared.places.Pos.{Pos}

-- the byte that ends a line
abbrev pub is_newline : ℕ → Bool
is_newline byte = byte == 10

-- The place in a file of what follows the bytes `front`: the line is one more than the newlines
-- there, and the column one more than the bytes after the last of them.
abbrev pub place_after : ℕ → List ℕ → Pos
place_after file front = record {
  file = file;
  line = 1 + count_by is_newline front;
  column = 1 + suffix_len (λ byte. not (is_newline byte)) front;
}
