-- The tokens of the texts of objects.
use Rattle.std.specs.Prelude.{◌≡◌, List, ◌++◌}
use Rattle.json.specs.Token.{Token}
use Rattle.json.specs.Tree.{json_tokens}
use Rattle.json.specs.Written.{Written}
use Rattle.serde_json.specs.Data.{Data}
use Rattle.serde_json.specs.Written.{outline}

-- the tokens of a value
abbrev pub tokens_of : Data → List Token
tokens_of d = json_tokens (outline d)

-- these tokens were written behind those before
abbrev pub Adds : Written → Written → List Token → Type 0
Adds old new tokens = (new.before ≡ old.before) × (new.tokens ≡ old.tokens ++ tokens)
