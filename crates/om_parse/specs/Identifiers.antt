-- What an identifier says: SQL-92, section 5.2, <regular identifier> and <delimited identifier body>.
use Rattle.std.specs.Prelude.{ℕ, List}
use Rattle.om_token.specs.Quotes.{unquoted}
use Rattle.om_parse.specs.declared.tree.Identifier.{Identifier}
use Rattle.om_parse.specs.declared.tree.Identifier.TheVariants as i

-- the bytes that an identifier says: of a delimited one those between double quotes
abbrev pub said : Identifier → List ℕ
said (i.Regular name) = name
said (i.Delimited inside) = unquoted 34 inside
