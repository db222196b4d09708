-- Kinds of bytes.
use Rattle.std.specs.Prelude.{ℕ, Bool, ◌==◌, ◌||◌, ◌&&◌, nat_le}

-- a blank: space, tab, carriage return and newline
abbrev pub is_space : ℕ → Bool
is_space byte = byte == 32 || byte == 9 || byte == 13 || byte == 10

-- a decimal digit
abbrev pub is_digit : ℕ → Bool
is_digit byte = nat_le 48 byte && nat_le byte 57

-- a letter, `A` to `Z` and `a` to `z`
abbrev pub is_letter : ℕ → Bool
is_letter byte = nat_le 65 byte && nat_le byte 90 || nat_le 97 byte && nat_le byte 122

-- a byte of a name behind its first
abbrev pub is_name_byte : ℕ → Bool
is_name_byte byte = is_letter byte || is_digit byte || byte == 95

-- a byte that a text can mean: one from 32 up, a newline, a carriage return or a tab
abbrev pub is_text_byte : ℕ → Bool
is_text_byte byte = nat_le 32 byte || byte == 10 || byte == 13 || byte == 9
