-- The limits, which the constants of the code repeat.
use Rattle.std.specs.Prelude.{ℕ}

-- the most bytes of a file
abbrev pub most_file_bytes : ℕ
most_file_bytes = 1048576

-- the most tokens of a file
abbrev pub most_tokens : ℕ
most_tokens = 262144

-- the most bytes of a name
abbrev pub most_name_bytes : ℕ
most_name_bytes = 64

-- the most digits of a number, leading zeros among them
abbrev pub most_literal_digits : ℕ
most_literal_digits = 38

-- the most bytes that a text means
abbrev pub most_text_bytes : ℕ
most_text_bytes = 65536

-- the most expressions and statements on the way from a declaration down to one of them
abbrev pub most_nesting : ℕ
most_nesting = 100

-- the greatest depth of a type
abbrev pub most_type_depth : ℕ
most_type_depth = 24

-- the most nodes of a type
abbrev pub most_type_nodes : ℕ
most_type_nodes = 4096
