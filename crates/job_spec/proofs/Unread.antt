-- The fault of a text that has no value.
use Rattle.std.proofs.Common.{◌≡◌, ℕ, List, length, true, ap, ◌∙◌}
use Rattle.std.specs.Prelude.{Err, nat_le}
use Rattle.outcomes.specs.Outcomes.{Fails}
use Rattle.fl_json.specs.Reading.{reading, lasting as lasting_json}
use Rattle.fl_json.specs.declared.faults.JsonFault.{JsonFault}
use Rattle.fl_json.specs.declared.faults.JsonFault.TheVariants as json
use Rattle.job_spec.specs.declared.faults.SpecFault.TheVariants.{NotJson, TooLarge}
use Rattle.job_spec.specs.Fields.{◌>>=◌, unless, lasting}
use Rattle.job_spec.specs.Specs.{spec_of, value_of, fault_of, spec_reading}

not_read : (text : List ℕ) (fault : JsonFault) → nat_le (length text) 65536 ≡ true → reading text ≡ Err fault → spec_reading text ≡ Err (NotJson fault)
unfolding spec_reading
not_read text fault short h = ap (λ t. unless TooLarge t >>= λ _. value_of (reading text) >>= λ d. spec_of text d) short ∙ ap (λ r. value_of r >>= λ d. spec_of text d) h

pub no_value : (text : List ℕ) (fault : JsonFault) → nat_le (length text) 65536 ≡ true → Fails lasting_json fault (reading text) → Fails lasting (fault_of fault) (spec_reading text)
no_value text json.NoMemory short h = tt
no_value text (json.BadNumber place) short h = not_read text (json.BadNumber place) short h
no_value text json.NotJson short h = not_read text json.NotJson short h
no_value text json.Missing short h = not_read text json.Missing short h
no_value text json.WrongKind short h = not_read text json.WrongKind short h
