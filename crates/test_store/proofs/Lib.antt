mod StagedFit
