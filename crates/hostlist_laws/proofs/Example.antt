-- A worked example, which the definitions compute: the items of `node[08-10,2],login`.
use Rattle.std.proofs.Common.{◌≡◌, List, [], ◌∷◌, Some, None, refl, codes}
use Rattle.std.specs.Fmt.{digits}
use Rattle.hostlist.specs.Names.{padded}
use Rattle.hostlist.specs.Reading.{spelled, text_fault, pieces, piece_fault, piece_hosts, bracket_behind}
use Rattle.hostlist_laws.specs.Items.{Item, Host, Bracket, text_of, hosts_of}

-- a range of numbers with two digits, a number with one, and a host by its name
items : List Item
items = Bracket (codes "node") (record { first = codes "08"; last = Some (codes "10") }
    ∷ record { first = codes "2"; last = None } ∷ []) ∷ Host (codes "login") ∷ []

their_text : text_of items ≡ codes "node[08-10,2],login"
unfolding items
their_text = refl

their_hosts : hosts_of items ≡ codes "node08" ∷ codes "node09" ∷ codes "node10" ∷ codes "node2" ∷ codes "login" ∷ []
unfolding items padded digits
their_hosts = refl

-- and so the reader's words say of the text
read : spelled (codes "node[08-10,2],login") ≡ codes "node08" ∷ codes "node09" ∷ codes "node10" ∷ codes "node2" ∷ codes "login" ∷ []
unfolding spelled pieces piece_hosts bracket_behind padded digits
read = refl

clean : text_fault (codes "node[08-10,2],login") ≡ None
unfolding text_fault pieces piece_fault bracket_behind
clean = refl
