-- The limit of key texts.
use Rattle.std.specs.Prelude.{ℕ}

-- the most bytes of a key text
abbrev pub key_limit : ℕ
key_limit = 500
