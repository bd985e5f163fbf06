use Rattle.kvs_rules.proofs.OneStore.{told_alone, means_alone, holds_alone, stores_own}
use Rattle.kvs_rules.proofs.laws.reads_in_one_store_use_no_other.Goals as goal

pub returns-clause-told : goal.returns-clause-told
returns-clause-told c set log by r asked path number st stands own fresh = told_alone set log by r asked path number st stands own fresh

pub returns-clause-means : goal.returns-clause-means
returns-clause-means c set log by r asked path uses told number st stands own h = means_alone set log by r asked path number st stands own uses told h

pub returns-clause-held : goal.returns-clause-held
returns-clause-held c set log by r asked path uses number st stands own = holds_alone set log by r asked path number st stands own uses

pub returns-clause-stores : goal.returns-clause-stores
returns-clause-stores c set log space number base own = stores_own set log space number base own
