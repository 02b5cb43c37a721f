mod LoadLaws
