use Rattle.content_service.proofs.Others.{all-others-agree, others-agree}
use Rattle.content_service.proofs.laws.others_leave_the_contents.Goals as goal

pub returns-clause-one : goal.returns-clause-one
returns-clause-one c = λ v set log m a legal h. others-agree v set log m a legal h

pub returns-clause-all : goal.returns-clause-all
returns-clause-all c = λ v set log more a legal h. all-others-agree v set log more a legal h
