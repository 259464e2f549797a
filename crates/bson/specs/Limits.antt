-- The limits of documents.
use Rattle.std.specs.Prelude.{ℕ}

-- the most bytes that a message may have, and so a document
abbrev pub message_limit : ℕ
message_limit = 1048576

-- the most levels to which documents and arrays nest, the top document among them
abbrev pub most_levels : ℕ
most_levels = 100
