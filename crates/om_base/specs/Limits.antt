-- How much is read and made, and the size of a page.
use Rattle.std.specs.Prelude.{ℕ}

-- the most bytes of a file that is read, of a log that is made, of a text that is printed
abbrev pub most_bytes : ℕ
most_bytes = 67_108_864

-- the bytes of a page of memory
abbrev pub page_size : ℕ
page_size = 4096
